-- What is left of the list has NULL exactly where the list has.
use Rattle.std.proofs.Common.{◌≡◌, drop, map}
use Rattle.std.specs.List.{list_any}
use Rattle.values.specs.Datum.{datum_of}
use Rattle.expr.specs.operations.Operations.{is_null}
use Rattle.expr.proofs.value_sets.set.any_null.Given as goal

abbrev pub invariant-loop-value : goal.invariant-loop-value
invariant-loop-value l = list_any is_null (map datum_of (drop l.value-index l.values)) ≡ list_any is_null (map datum_of l.values)
