-- Why a cell is no row of its table, and what is broken of a table and its rows. (The faults of docs/FAULTS.md)
use Rattle.std.specs.Prelude.{◌≡◌, ◌⊎◌, ◌<◌, ℕ, List, string_bytes}
use Rattle.values.specs.Datum.{Datum}
use Rattle.values.specs.declared.fault.Fault.{Fault}
use Rattle.values.specs.declared.fault.Fault.TheVariants.{ReadFailed, NoMemory, BadChain, PageUse, BadRecord, FloatValue, BadText, ValueBreaksColumn}
use Rattle.records.specs.declared.fault.RecordFault.{RecordFault}
use Rattle.records.specs.declared.fault.RecordFault.TheVariants as r
use Rattle.records.specs.Record.{Breaks, IsRecord}
use Rattle.btree.specs.declared.image.kind.TreeKind.TheVariants.{Table}
use Rattle.btree.specs.image.Broken.{IsBroken}
use Rattle.btree.specs.image.Cell.{CellData}
use Rattle.btree.specs.image.Chain.{HasBytes}
use Rattle.btree.specs.image.Layout.{cell_count}
use Rattle.btree.specs.image.Pages.{Pages}
use Rattle.btree.specs.image.Tree.{Place, IsPlaceOf, IsRowAt}
use Rattle.btree.specs.Bytes as bytes
use Rattle.values.specs.Row.{Row}
use Rattle.schema_tables.specs.TableData.{TableData}
use Rattle.records_tables.specs.stored_rows.Stored.{Fits, IsNoRow, IsRowOf}

-- the bytes are a record, with more values than the table has columns, or without one that isn't known otherwise
abbrev pub HasNoRow : TableData → List ℕ → Type 0
HasNoRow table bytes = (values : List Datum) × IsRecord bytes values × IsNoRow table values

-- why bytes are the record of no row of the table
abbrev pub IsRecordFault : TableData → List ℕ → RecordFault → Type 0
IsRecordFault table bytes r.Bad = Breaks r.Bad bytes ⊎ HasNoRow table bytes
IsRecordFault table bytes r.Float = Breaks r.Float bytes
IsRecordFault table bytes r.Text = Breaks r.Text bytes
IsRecordFault table bytes r.NoMemory = Unit {0}

-- the fault of a record, once its page is known
abbrev pub fault_of : RecordFault → ℕ → Fault
fault_of r.Bad n = BadRecord n
fault_of r.Float n = FloatValue
fault_of r.Text n = BadText
fault_of r.NoMemory n = NoMemory

-- a row of the table has a value that isn't of its column
abbrev pub HasMisfit : Pages → TableData → CellData → Type 0
HasMisfit pages table cell = (row : Row) × IsRowOf pages table cell row × (¬ Fits table row)

-- the bytes of a cell's payload are the record of no row, for this reason
pub record HasRecordFault (pages : Pages) (table : TableData) (cell : CellData) (fault : RecordFault) : Type 0 where
  pub bytes : List ℕ
  pub whole : HasBytes pages cell.payload bytes
  pub broken : IsRecordFault table bytes fault

-- the condition of a cell on page n that a fault says is broken
abbrev pub IsCellFault : Pages → TableData → ℕ → CellData → Fault → Type 0
IsCellFault pages table n cell (BadChain m) = (m ≡ n) × ((bytes : List ℕ) → ¬ HasBytes pages cell.payload bytes)
IsCellFault pages table n cell (BadRecord m) = (m ≡ n) × HasRecordFault pages table cell r.Bad
IsCellFault pages table n cell FloatValue = HasRecordFault pages table cell r.Float
IsCellFault pages table n cell BadText = HasRecordFault pages table cell r.Text
IsCellFault pages table n cell (ValueBreaksColumn name) = (string_bytes name ≡ table.name) × HasMisfit pages table cell
IsCellFault pages table n cell _ = ⊥

-- a cell of the table's tree has the condition
pub record HasCellFault (pages : Pages) (table : TableData) (fault : Fault) : Type 0 where
  pub place : Place
  pub cell : CellData
  pub is_place : IsPlaceOf pages Table table.root place
  pub at : IsRowAt pages place cell
  pub broken : IsCellFault pages table place.page cell fault

-- a page, the order or a row of the table has the condition that a fault says is broken
abbrev pub IsBrokenTable : Pages → TableData → Fault → Type 0
IsBrokenTable pages table fault = IsBroken pages table.root fault ⊎ HasCellFault pages table fault

-- Of a leaf of these used bytes, which is page n and whose header begins at a place: cell i is a row of the table, whose
-- values are of its columns.
pub record IsRowIn (pages : Pages) (table : TableData) (at most : ℕ) (page : List ℕ) (i : ℕ) : Type 0 where
  pub cell : CellData
  pub row : Row
  pub here : bytes.IsRowCell at most page i cell
  pub is : IsRowOf pages table cell row
  pub fits : Fits table row

abbrev pub AreRowsIn : Pages → TableData → ℕ → ℕ → List ℕ → Type 0
AreRowsIn pages table at most page = (i : ℕ) → i < cell_count at page → IsRowIn pages table at most page i

-- one of its cells has the condition
pub record IsLeafFault (pages : Pages) (table : TableData) (n at most : ℕ) (page : List ℕ) (fault : Fault) : Type 0 where
  pub i : ℕ
  pub cell : CellData
  pub within : i < cell_count at page
  pub here : bytes.IsRowCell at most page i cell
  pub broken : IsCellFault pages table n cell fault

-- the faults of a table's rows
abbrev pub IsRowFault : Fault → Type 0
IsRowFault ReadFailed = Unit {0}
IsRowFault NoMemory = Unit {0}
IsRowFault (BadChain _) = Unit {0}
IsRowFault (PageUse _) = Unit {0}
IsRowFault (BadRecord _) = Unit {0}
IsRowFault FloatValue = Unit {0}
IsRowFault BadText = Unit {0}
IsRowFault (ValueBreaksColumn _) = Unit {0}
IsRowFault _ = ⊥
