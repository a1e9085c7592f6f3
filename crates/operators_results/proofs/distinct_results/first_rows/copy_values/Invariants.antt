use Rattle.std.proofs.Common.{◌≡◌, map, take}
use Rattle.values.specs.Datum.{datum_of}
use Rattle.operators_results.proofs.distinct_results.first_rows.copy_values.Given as goal

abbrev pub invariant-loop-value : goal.invariant-loop-value
invariant-loop-value l = map datum_of l.out.items ≡ map datum_of (take l.value-index l.row)
