use Rattle.std.proofs.Common.{◌≡◌, map, take}
use Rattle.values.specs.Datum.{datum_of_ref}
use Rattle.schema_tables.specs.TableData.{MissingData}
use Rattle.records_tables.specs.stored_rows.Stored.{filled_values}
use Rattle.records_tables.proofs.stored_rows.rows.RowView.filled.Given as goal

abbrev pub invariant-loop-i : goal.invariant-loop-i
invariant-loop-i l = map MissingData.Fill (map datum_of_ref l.values.items) ≡ take l.i (filled_values l.table l.fields)
