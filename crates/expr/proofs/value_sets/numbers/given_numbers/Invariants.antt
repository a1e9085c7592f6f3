-- The numbers so far.
use Rattle.std.proofs.Common.{◌≡◌, map, take}
use Rattle.std.specs.List.{filter_map}
use Rattle.values.specs.Datum.{datum_of}
use Rattle.expr.specs.value_sets.Numbers.{number_in}
use Rattle.expr.proofs.value_sets.numbers.given_numbers.Given as goal

abbrev pub invariant-loop-value : goal.invariant-loop-value
invariant-loop-value l = l.numbers.items ≡ filter_map number_in (map datum_of (take l.value-index l.values))
