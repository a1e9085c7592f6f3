use Rattle.btree_cursor.specs.cursor.Left.{steps_left}
use Rattle.integrity_trees.proofs.lemmas.table_walk.GatherLemmas.{Gathering}
use Rattle.integrity_trees.proofs.table_walk.rows.all_rows.Given as goal

abbrev pub invariant-loop-entry : goal.invariant-loop-entry
invariant-loop-entry g l = Gathering l.fn.pager.state l.pager.state l.fn.table l.cursor l.rows.items

abbrev pub decreases-loop-entry : goal.decreases-loop-entry
decreases-loop-entry g l = steps_left l.cursor
