use Rattle.std.proofs.Common.{◌≡◌, ◌≤◌, List, length, map, take}
use Rattle.values.specs.Datum.{Datum, datum_of}
use Rattle.records.specs.Record.{IsRecord}
use Rattle.records_searches.specs.Entries.{values_at}
use Rattle.records_searches.proofs.fetches.put_key.Given as goal

abbrev pub invariant-loop-next : goal.invariant-loop-next
invariant-loop-next l = record {
  puts : (values : List Datum) → IsRecord l.bytes values → take l.next (map datum_of l.key.items) ≡ values_at values (take l.next l.places);
  long : l.next ≤ length l.key.items;
}
