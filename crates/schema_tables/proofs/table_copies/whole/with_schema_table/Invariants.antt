-- The tables before this one are copied.
use Rattle.std.proofs.Common.{◌≡◌, take}
use Rattle.schema_tables.proofs.table_copies.whole.with_schema_table.Given as goal

abbrev pub invariant-loop-table : goal.invariant-loop-table
invariant-loop-table l = l.all.items ≡ take l.table-index l.tables
