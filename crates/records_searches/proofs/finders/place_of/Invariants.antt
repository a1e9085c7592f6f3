use Rattle.std.proofs.Common.{◌≡◌, ◌+◌, drop}
use Rattle.records_tables.specs.primary_rows.Firsts.{place_of}
use Rattle.records_searches.proofs.finders.place_of.Given as goal

abbrev pub invariant-loop-at : goal.invariant-loop-at
invariant-loop-at l = place_of l.numbers l.number ≡ l.at + place_of (drop l.at l.numbers) l.number
