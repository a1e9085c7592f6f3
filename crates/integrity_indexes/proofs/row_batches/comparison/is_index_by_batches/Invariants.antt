use Rattle.btree_cursor.specs.cursor.Left.{steps_left}
use Rattle.integrity_indexes.proofs.lemmas.row_batches.BatchLemmas.{Batching}
use Rattle.integrity_indexes.proofs.row_batches.comparison.is_index_by_batches.Given as goal

abbrev pub invariant-loop-entry : goal.invariant-loop-entry
invariant-loop-entry g l = Batching l.fn.pager.state l.pager.state l.table l.index l.entries l.cursor l.kept l.run

abbrev pub decreases-loop-entry : goal.decreases-loop-entry
decreases-loop-entry g l = steps_left l.cursor
