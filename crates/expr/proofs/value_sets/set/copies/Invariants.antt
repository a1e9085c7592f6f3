use Rattle.std.proofs.Common.{◌≡◌, map, take}
use Rattle.values.specs.Datum.{datum_of}
use Rattle.expr.proofs.value_sets.set.copies.Given as goal

abbrev pub invariant-loop-value : goal.invariant-loop-value
invariant-loop-value l = map datum_of l.copies.items ≡ map datum_of (take l.value-index l.values)
