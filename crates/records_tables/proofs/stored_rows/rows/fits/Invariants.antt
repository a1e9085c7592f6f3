use Rattle.std.proofs.Common.{◌≡◌, ◌<◌, ℕ, slice_get, Some}
use Rattle.values.specs.Datum.{Datum}
use Rattle.schema_tables.specs.TableData.{ColumnData}
use Rattle.records_tables.specs.stored_rows.Stored.{FitsColumn}
use Rattle.records_tables.proofs.stored_rows.rows.fits.Given as goal

abbrev pub invariant-loop-i : goal.invariant-loop-i
invariant-loop-i l = (k : ℕ) (column : ColumnData) (value : Datum) → k < l.i → slice_get l.table.columns k ≡ Some column
    → slice_get l.row k ≡ Some value → FitsColumn column value
