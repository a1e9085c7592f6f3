use Rattle.std.proofs.Common.{◌≡◌, ◌+◌, [], length}
use Rattle.records_tables.specs.primary_rows.Firsts.{firsts}
use Rattle.records_tables.proofs.PlaceLemmas.{others_below}
use Rattle.records_tables.proofs.places.record_place.Given as goal

abbrev pub invariant-loop-other : goal.invariant-loop-other
invariant-loop-other l = l.place ≡ length (firsts [] l.key) + others_below l.key l.other-counter
