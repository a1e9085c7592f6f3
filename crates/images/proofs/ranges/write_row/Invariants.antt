use Rattle.std.proofs.Common.{◌≡◌}
use Rattle.records_tables.specs.Reading.{table_read}
use Rattle.images.proofs.ranges.write_row.Given as goal

abbrev pub invariant-loop-column : goal.invariant-loop-column
invariant-loop-column g l = table_read l.reader ≡ l.table
