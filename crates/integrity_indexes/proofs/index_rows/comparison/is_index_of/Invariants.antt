use Rattle.btree_cursor.specs.cursor.Left.{steps_left}
use Rattle.integrity_indexes.proofs.lemmas.index_rows.CompareLemmas.{Comparing}
use Rattle.integrity_indexes.proofs.index_rows.comparison.is_index_of.Given as goal

abbrev pub invariant-loop-entry : goal.invariant-loop-entry
invariant-loop-entry g l = Comparing l.fn.pager.state l.pager.state l.table l.index l.entries l.cursor l.kept

abbrev pub decreases-loop-entry : goal.decreases-loop-entry
decreases-loop-entry g l = steps_left l.cursor
