-- A row without a rowid of which some values are read. (Database File Format, section 2.4 "Representation Of WITHOUT ROWID
-- Tables")
use Rattle.std.specs.Prelude.{◌≡◌, ◌≤◌, ℕ, List, drop}
use Rattle.values.specs.Datum.{Datum}
use Rattle.values.specs.Row.{Row}
use Rattle.records.specs.Fields.{AreUnread, Unread}
use Rattle.records.specs.Record.{IsRecord}
use Rattle.schema_tables.specs.TableData.{TableData}
use Rattle.records_tables.specs.primary_rows.Rows.{IsPrimaryRow}

-- what a reader of a row without a rowid knows: the table, the payload, and the fields of the record that are unread, from a
-- place of the record on
pub record KeyReading : Type 0 where
  pub table : TableData
  pub payload : List ℕ
  pub unread : Unread
  pub at : ℕ

-- the row that it reads is this one
pub record IsKeyReading (reading : KeyReading) (row : Row) : Type 0 where
  pub values : List Datum
  pub record_is : IsRecord reading.payload values
  pub makes : IsPrimaryRow reading.table values row
  pub unread_are : AreUnread reading.unread (drop reading.at values)

-- a reader goes back to a place of the record that isn't behind this one, and reads the same row
pub record GoesBackTo (old new : KeyReading) (place : ℕ) : Type 0 where
  pub table : new.table ≡ old.table
  pub before : new.at ≤ place
  pub reads : (row : Row) → IsKeyReading old row → IsKeyReading new row
