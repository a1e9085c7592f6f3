use Rattle.std.proofs.Common.{◌≡◌, map, take}
use Rattle.values.specs.Datum.{datum_of}
use Rattle.semantics.specs.OneTable.{shown}
use Rattle.operators.proofs.gathered_rows.row_copy.Given as goal

abbrev pub invariant-loop-at : goal.invariant-loop-at
invariant-loop-at l = map datum_of l.copied.items ≡ shown (take l.at-index l.places) (map datum_of l.row)
