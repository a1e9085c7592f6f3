-- A row of which some values are read. (Database File Format, section 2.3 "Representation Of SQL Tables")
use Rattle.std.specs.Prelude.{◌≡◌, ◌≤◌, ℕ, ℤ, List, Option, None, Some, drop, nat_eq, if◌then◌else◌}
use Rattle.values.specs.Datum.{Datum, int}
use Rattle.records.specs.Fields.{AreUnread, Unread}
use Rattle.records.specs.Record.{IsRecord}
use Rattle.values.specs.Row.{Row}
use Rattle.schema_tables.specs.TableData.{TableData}
use Rattle.records_tables.specs.stored_rows.Stored.{IsRowFrom}

-- the value of a row in a column where its record has this one: the rowid at its place
abbrev pub value_in : Option ℕ → Option ℤ → ℕ → Datum → Datum
value_in (Some key) (Some rowid) column stored = if nat_eq key column then int rowid else stored
value_in (Some key) None column stored = stored
value_in None rowid column stored = stored

-- what a reader knows: the table, the cell's rowid and payload, and the fields of the record that are unread, from a place
-- on
pub record Reading : Type 0 where
  pub table : TableData
  pub rowid : Option ℤ
  pub payload : List ℕ
  pub unread : Unread
  pub at : ℕ

-- the row that it reads is this one
pub record IsReading (reading : Reading) (row : Row) : Type 0 where
  pub values : List Datum
  pub record_is : IsRecord reading.payload values
  pub makes : IsRowFrom reading.table reading.rowid values row
  pub unread_are : AreUnread reading.unread (drop reading.at values)

-- a reader goes back to a place that isn't behind this column's, and reads the same row
pub record GoesBack (old new : Reading) (column : ℕ) : Type 0 where
  pub table : new.table ≡ old.table
  pub rowid : new.rowid ≡ old.rowid
  pub before : new.at ≤ column
  pub reads : (row : Row) → IsReading old row → IsReading new row
