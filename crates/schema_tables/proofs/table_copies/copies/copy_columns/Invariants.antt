-- The columns before this one are copied.
use Rattle.std.proofs.Common.{◌≡◌, take}
use Rattle.schema_tables.proofs.table_copies.copies.copy_columns.Given as goal

abbrev pub invariant-loop-column : goal.invariant-loop-column
invariant-loop-column l = l.copies.items ≡ take l.column-index l.columns
