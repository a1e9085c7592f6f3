-- The row of a record, where the rows of the table are found by the PRIMARY KEY, and why bytes are the record of none.
-- (Database File Format, section 2.4 "Representation Of WITHOUT ROWID Tables"; ALTER TABLE ADD COLUMN; the faults of
-- docs/FAULTS.md)
use Rattle.std.specs.Prelude.{◌≡◌, ◌⊎◌, ◌<◌, ◌≤◌, ℕ, Contains, List, length, map, slice_get, slice_index_or, string_bytes, Option, None, Some}
use Rattle.std.specs.List.{range_with_len}
use Rattle.values.specs.Datum.{Datum}
use Rattle.values.specs.Row.{Row}
use Rattle.values.specs.declared.fault.Fault.{Fault}
use Rattle.values.specs.declared.fault.Fault.TheVariants.{BadRecord, ValueBreaksColumn}
use Rattle.records.specs.Record.{IsRecord}
use Rattle.btree_cursor.specs.index_entries.Entries.{BreaksRecord, IsCompareFault}
use Rattle.schema_tables.specs.TableData.{MissingData, TableData}
use Rattle.records_tables.specs.stored_rows.Stored.{Fits}
use Rattle.records_tables.specs.primary_rows.Firsts.{place_of}
use Rattle.records_tables.specs.primary_rows.Order.{key_order, record_order}

abbrev pub told_by : Option Datum → MissingData → MissingData
told_by (Some value) missing = MissingData.Fill value
told_by None missing = missing

-- what an older row has in a column
abbrev pub missing_in : TableData → ℕ → MissingData
missing_in table column = slice_index_or (map (λ c. c.missing) table.columns) column MissingData.Refused

-- what is in a column, of a record of these values: the value at the column's place in it, or what an older row has
abbrev pub column_told : TableData → List Datum → ℕ → MissingData
column_told table values column = told_by (slice_get values (place_of (record_order table) column)) (missing_in table column)

abbrev pub told_values : TableData → List Datum → List MissingData
told_values table values = map (column_told table values) (range_with_len 0 (length table.columns))

-- The row of a record of these values, which has the columns of the key at least and those of the table at most.
pub record IsPrimaryRow (table : TableData) (values : List Datum) (row : Row) : Type 0 where
  pub least : length (key_order table) ≤ length values
  pub few : length values ≤ length (record_order table)
  pub told : map MissingData.Fill row ≡ told_values table values

-- A record of these values is that of no row: a column of the key is missing, there are too many values, or a column is lacking
-- whose value isn't known.
abbrev pub IsNoPrimaryRow : TableData → List Datum → Type 0
IsNoPrimaryRow table values = (length values < length (key_order table)) ⊎ (length (record_order table) < length values)
    ⊎ Contains (told_values table values) MissingData.Refused

-- the values of the row are of the table's columns
abbrev pub IsStoredRow : TableData → List Datum → Type 0
IsStoredRow table values = (row : Row) × IsPrimaryRow table values row × Fits table row

-- one of them isn't
abbrev pub IsMisfit : TableData → List Datum → Fault → Type 0
IsMisfit table values (ValueBreaksColumn name) =
    (string_bytes name ≡ table.name) × ((row : Row) × IsPrimaryRow table values row × (¬ Fits table row))
IsMisfit table values _ = ⊥

-- the condition of a record of these values, which stands on page n, that a fault says is broken
abbrev pub BreaksRow : TableData → List Datum → ℕ → Fault → Type 0
BreaksRow table values n fault = ((fault ≡ BadRecord n) × IsNoPrimaryRow table values) ⊎ IsMisfit table values fault

-- the same of bytes that may be no record; of memory it says nothing
abbrev pub BreaksRowRecord : TableData → List ℕ → ℕ → Fault → Type 0
BreaksRowRecord table bytes n fault =
    BreaksRecord bytes n fault ⊎ ((values : List Datum) × IsRecord bytes values × BreaksRow table values n fault)

-- the faults of a row of page n
abbrev pub IsPrimaryFault : ℕ → Fault → Type 0
IsPrimaryFault n (ValueBreaksColumn _) = Unit {0}
IsPrimaryFault n fault = IsCompareFault n fault
