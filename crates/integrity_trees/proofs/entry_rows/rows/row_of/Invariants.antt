use Rattle.std.proofs.Common.{◌≡◌, take}
use Rattle.integrity_trees.proofs.entry_rows.rows.row_of.Given as goal

abbrev pub invariant-loop-index : goal.invariant-loop-index
invariant-loop-index l = l.row ≡ take l.index l.stored
