use Rattle.btree_cursor.specs.cursor.Left.{steps_left}
use Rattle.integrity_trees.proofs.lemmas.primary_walk.RowLemmas.{Following}
use Rattle.integrity_trees.proofs.primary_walk.rows.check_rows.Given as goal

abbrev pub invariant-loop-entry : goal.invariant-loop-entry
invariant-loop-entry g l = Following l.fn.pager.state l.pager.state l.table l.cursor

abbrev pub decreases-loop-entry : goal.decreases-loop-entry
decreases-loop-entry g l = steps_left l.cursor
