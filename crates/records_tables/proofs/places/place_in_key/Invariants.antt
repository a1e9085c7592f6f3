use Rattle.std.proofs.Common.{◌≡◌, ◌≤◌, [], false, length, take}
use Rattle.records_tables.specs.primary_rows.Firsts.{firsts, has_number}
use Rattle.records_tables.proofs.places.place_in_key.Given as goal

abbrev pub invariant-loop-at : goal.invariant-loop-at
invariant-loop-at l = record {
  count_is : l.count ≡ length (firsts [] (take l.at l.key));
  few : l.count ≤ l.at;
  none : has_number (take l.at l.key) l.column ≡ false;
}
