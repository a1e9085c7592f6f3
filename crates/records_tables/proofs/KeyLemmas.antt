-- A value of a row that is read by its column's place in the record.
use Rattle.std.proofs.Common.{◌≡◌, ◌∙◌, ◌<◌, ◌≤◌, ℕ, length, slice_get, Option, None, Some, ap}
use Rattle.std.specs.Prelude.{IfNone, IfSome}
use Rattle.values.specs.Datum.{Datum, datum_of_ref}
use Rattle.values.specs.Row.{Row}
use Rattle.values.specs.declared.value.ValueRef.{ValueRef}
use Rattle.schema_tables.specs.TableData.{ColumnData, MissingData}
use Rattle.records_tables.proofs.lemmas.stored_rows.FilledLemmas.{filled_at, not_refused}
use Rattle.records_tables.specs.primary_rows.Firsts.{place_of}
use Rattle.records_tables.specs.primary_rows.Order.{record_order}
use Rattle.records_tables.specs.primary_rows.Rows.{told_values}
use Rattle.records_tables.proofs.lemmas.primary_rows.ToldLemmas.{found_at, lacking_at}
use Rattle.records_tables.specs.Keyed.{IsKeyReading, KeyReading}

module _ (reading : KeyReading) (column place : ℕ) (within : column < length reading.table.columns) (place_is : place ≡ place_of (record_order reading.table) column)
    (row : Row) (is : IsKeyReading reading row) where
  -- one that the record has
  pub value_stored : (value : Datum) → slice_get is.values place ≡ Some value → slice_get row column ≡ Some value
  value_stored value here =
      filled_at row (told_values reading.table is.values) column value is.makes.told (found_at reading.table is.values column within place value place_is here)

  -- what is told of one that it lacks
  told_older : (declared : ColumnData) → slice_get reading.table.columns column ≡ Some declared → length is.values ≤ place
      → slice_get (told_values reading.table is.values) column ≡ Some declared.missing
  told_older declared at past = lacking_at reading.table is.values column within place declared place_is past at

  value_older : (declared : ColumnData) → slice_get reading.table.columns column ≡ Some declared → length is.values ≤ place
      → (value : Datum) → declared.missing ≡ MissingData.Fill value → slice_get row column ≡ Some value
  value_older declared at past value e =
      filled_at row (told_values reading.table is.values) column value is.makes.told (told_older declared at past ∙ ap (λ (m : MissingData). Some m) e)

  none_older : (declared : ColumnData) → slice_get reading.table.columns column ≡ Some declared → length is.values ≤ place → declared.missing ≡ MissingData.Refused → ⊥
  none_older declared at past e =
      not_refused row (told_values reading.table is.values) column is.makes.told (told_older declared at past ∙ ap (λ (m : MissingData). Some m) e)

-- what is found behind the record's values, which were all passed
abbrev pub IsBehind : KeyReading → KeyReading → KeyReading → ℕ → Type 0
IsBehind old back now place = (row : Row) → IsKeyReading old row → (is : IsKeyReading back row) × (length is.values ≤ place) × IsKeyReading now row

module _ (old back now : KeyReading) (column place : ℕ) (declared : ColumnData) (lacks : IsBehind old back now place) (within : column < length back.table.columns)
    (place_is : place ≡ place_of (record_order back.table) column) (at : slice_get back.table.columns column ≡ Some declared) where
  pub older_found : (found : Option ValueRef) → IfSome found (λ value. declared.missing ≡ MissingData.Fill (datum_of_ref value))
      → IfSome found (λ value. (row : Row) → IsKeyReading old row → (slice_get row column ≡ Some (datum_of_ref value)) × IsKeyReading now row)
  older_found None told = tt
  older_found (Some value) told = λ row is.
      let here = lacks row is in
      (value_older back column place within place_is row here.0 declared at here.1 (datum_of_ref value) told, here.2)

  pub older_none : (found : Option ValueRef) → IfNone found (declared.missing ≡ MissingData.Refused) → IfNone found ((row : Row) → ¬ IsKeyReading old row)
  older_none None told = λ row is.
      let here = lacks row is in
      none_older back column place within place_is row here.0 declared at here.1 told
  older_none (Some value) told = tt
