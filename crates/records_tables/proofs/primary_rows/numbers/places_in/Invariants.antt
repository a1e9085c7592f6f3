use Rattle.std.proofs.Common.{◌≡◌, map}
use Rattle.std.specs.List.{range_with_len}
use Rattle.records_tables.specs.primary_rows.Firsts.{place_of}
use Rattle.records_tables.proofs.primary_rows.numbers.places_in.Given as goal

abbrev pub invariant-loop-number : goal.invariant-loop-number
invariant-loop-number l = l.places.items ≡ map (place_of l.numbers) (range_with_len 0 l.number)
