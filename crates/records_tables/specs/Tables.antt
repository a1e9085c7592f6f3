-- Tables of either kind: the trees that they are stored in, and their rows. (Database File Format, section 2.3 "Representation Of
-- SQL Tables", and section 2.4 "Representation Of WITHOUT ROWID Tables")
use Rattle.std.specs.Prelude.{◌<◌, ℕ, ℤ, All, List, Option}
use Rattle.std.specs.List.{AllZip}
use Rattle.values.specs.Datum.{Datum}
use Rattle.values.specs.Row.{Row}
use Rattle.records.specs.Record.{IsRecord}
use Rattle.btree.specs.declared.image.kind.TreeKind.{TreeKind}
use Rattle.btree.specs.declared.image.kind.TreeKind.TheVariants.{Table, Index}
use Rattle.btree.specs.image.Cell.{CellData}
use Rattle.btree.specs.image.Chain.{HasBytes}
use Rattle.btree.specs.image.Pages.{Pages}
use Rattle.btree.specs.image.Shape.{HasShape, most_levels, places_under}
use Rattle.btree.specs.image.Tree.{IsEntryAt, Place}
use Rattle.schema_tables.specs.TableData.{RowKeyData, TableData}
use Rattle.records_tables.specs.stored_rows.Stored.{Fits, IsRowRecord, IsStored}
use Rattle.records_tables.specs.primary_rows.Rows.{IsPrimaryRow}
use Rattle.records_tables.specs.primary_rows.Held.{HoldsPrimaryRows, StoresPrimaryRow}

-- the kind of the tree of a table whose rows are found so
abbrev pub kind_of : RowKeyData → TreeKind
kind_of (RowKeyData.Rowid place) = Table
kind_of (RowKeyData.Primary places) = Index

-- the bytes are the record of this row of a table without rowids
pub record IsPrimaryRecord (table : TableData) (bytes : List ℕ) (row : Row) : Type 0 where
  pub values : List Datum
  pub record_is : IsRecord bytes values
  pub makes : IsPrimaryRow table values row

-- the bytes are the record of this row of a table whose rows are found so
abbrev pub IsRecordBy : RowKeyData → TableData → Option ℤ → List ℕ → Row → Type 0
IsRecordBy (RowKeyData.Rowid place) table rowid bytes row = IsRowRecord table rowid bytes row
IsRecordBy (RowKeyData.Primary places) table rowid bytes row = IsPrimaryRecord table bytes row

abbrev pub IsAnyRecord : TableData → Option ℤ → List ℕ → Row → Type 0
IsAnyRecord table rowid bytes row = IsRecordBy table.key table rowid bytes row

-- a cell of the table's tree is this row: its payload is the row's record
pub record IsRowBy (key : RowKeyData) (pages : Pages) (table : TableData) (cell : CellData) (row : Row) : Type 0 where
  pub bytes : List ℕ
  pub whole : HasBytes pages cell.payload bytes
  pub is : IsRecordBy key table cell.rowid bytes row

abbrev pub IsAnyRow : Pages → TableData → CellData → Row → Type 0
IsAnyRow pages table cell row = IsRowBy table.key pages table cell row

-- the cell at a place of the table's tree is this row
pub record StoresRowBy (key : RowKeyData) (pages : Pages) (table : TableData) (place : Place) (row : Row) : Type 0 where
  pub cell : CellData
  pub at : IsEntryAt pages (kind_of key) place cell
  pub is : IsRowBy key pages table cell row

abbrev pub StoresAnyRow : Pages → TableData → Place → Row → Type 0
StoresAnyRow pages table place row = StoresRowBy table.key pages table place row

-- The table is stored without rowids, in a tree of so many levels below its root: the entries under its root from left to right
-- are the rows.
pub record IsStoredPrimary (pages : Pages) (table : TableData) (levels : ℕ) (rows : List Row) : Type 0 where
  pub shape : HasShape pages Index levels table.root
  pub rows_are : AllZip (StoresPrimaryRow pages table) (places_under pages Index levels table.root) rows
  pub holds : HoldsPrimaryRows pages table rows
  pub fit : All (Fits table) rows

abbrev pub IsStoredBy : RowKeyData → Pages → TableData → ℕ → List Row → Type 0
IsStoredBy (RowKeyData.Rowid place) pages table levels rows = IsStored pages table levels rows
IsStoredBy (RowKeyData.Primary places) pages table levels rows = IsStoredPrimary pages table levels rows

-- the table is stored in a tree of fewer than 20 levels below its root
pub record IsAnyStored (pages : Pages) (table : TableData) : Type 0 where
  pub levels : ℕ
  pub rows : List Row
  pub few : levels < most_levels
  pub stored : IsStoredBy table.key pages table levels rows
