use Rattle.std.proofs.Common.{◌≡◌, map, take}
use Rattle.schema_tables.specs.TableData.{MissingData}
use Rattle.records_tables.specs.primary_rows.Rows.{told_values}
use Rattle.integrity_indexes.proofs.index_rows.rows.row_of.Given as goal

abbrev pub invariant-loop-column : goal.invariant-loop-column
invariant-loop-column l = map MissingData.Fill l.row ≡ take l.column (told_values l.table l.fields)
