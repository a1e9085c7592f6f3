use Rattle.std.proofs.Common.{◌≡◌, ◌++◌, map, take}
use Rattle.records_tables.specs.primary_rows.Firsts.{place_of}
use Rattle.records_searches.proofs.finders.places_in_entry.Given as goal

abbrev pub invariant-loop-column : goal.invariant-loop-column
invariant-loop-column l = l.places.items ≡ map (place_of (l.columns ++ l.others)) (take l.column-index l.sought)
