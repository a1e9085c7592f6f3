-- The rows of a table, as its tree stores them. (Database File Format, section 2.3 "Representation Of SQL Tables";
-- ROWIDs and the INTEGER PRIMARY KEY; STRICT Tables; ALTER TABLE ADD COLUMN)
use Rattle.std.specs.Prelude.{◌≡◌, ◌⊎◌, ◌<◌, ◌≤◌, false, ℕ, ℤ, All, Contains, List, ◌++◌, drop, length, map, slice_set, Option, None, Some}
use Rattle.std.specs.List.{AllZip}
use Rattle.values.specs.Datum.{Datum, null, int, text, blob, type_of}
use Rattle.records.specs.Record.{IsRecord}
use Rattle.btree.specs.declared.image.kind.TreeKind.TheVariants.{Table}
use Rattle.btree.specs.image.Cell.{CellData}
use Rattle.btree.specs.image.Chain.{HasBytes}
use Rattle.btree.specs.image.Pages.{Pages}
use Rattle.btree.specs.image.Broken.{IsRowOrder}
use Rattle.btree.specs.image.Tree.{Place, IsRowAt, Reaches}
use Rattle.btree.specs.image.Shape.{HasShape, places_under}
use Rattle.btree.specs.image.Sound.{AreRowsOf}
use Rattle.values.specs.Row.{Row}
use Rattle.schema_tables.specs.TableData.{ColumnData, MissingData, TableData, rowid_of}

-- The row that a record's values are: at the place of the column that is the rowid stands the rowid, whatever is stored
-- there.
abbrev pub row_from : Option ℕ → Option ℤ → List Datum → Row
row_from (Some at) (Some rowid) values = slice_set values at (int rowid)
row_from (Some at) None values = values
row_from None rowid values = values

-- a value of this column: it has the column's type, or is NULL where that is allowed
abbrev pub FitsColumn : ColumnData → Datum → Type 0
FitsColumn column null = column.not_null ≡ false
FitsColumn column (int number) = column.ty ≡ type_of (int number)
FitsColumn column (text bytes) = column.ty ≡ type_of (text bytes)
FitsColumn column (blob bytes) = column.ty ≡ type_of (blob bytes)

abbrev pub Fits : TableData → Row → Type 0
Fits table row = AllZip FitsColumn table.columns row

-- what is stored in the column that is the rowid
abbrev pub without_rowid : Option ℕ → List MissingData → List MissingData
without_rowid None missing = missing
without_rowid (Some at) missing = slice_set missing at (MissingData.Fill null)

-- what a row that is older than the columns of a table has in each of them
abbrev pub older_values : TableData → List MissingData
older_values table = without_rowid (rowid_of table.key) (map (λ column. column.missing) table.columns)

-- What is in the columns of a table, of a record of these values: they, and behind them what an older row has in the
-- columns that the record lacks. A NULL that is stored stays one. (ALTER TABLE ADD COLUMN)
abbrev pub filled_values : TableData → List Datum → List MissingData
filled_values table values = map MissingData.Fill values ++ drop (length values) (older_values table)

-- the row of a record that has no more values than its table has columns, and lacks none whose value isn't known
pub record IsRowFrom (table : TableData) (rowid : Option ℤ) (values : List Datum) (row : Row) : Type 0 where
  pub filled : List Datum
  pub few : length values ≤ length table.columns
  pub filled_is : map MissingData.Fill filled ≡ filled_values table values
  pub row_is : row ≡ row_from (rowid_of table.key) rowid filled

-- a record of these values is that of no row: there are too many, or a column is lacking whose value isn't known
abbrev pub IsNoRow : TableData → List Datum → Type 0
IsNoRow table values = (length table.columns < length values) ⊎ Contains (filled_values table values) MissingData.Refused

-- the bytes are the record of this row
pub record IsRowRecord (table : TableData) (rowid : Option ℤ) (bytes : List ℕ) (row : Row) : Type 0 where
  pub values : List Datum
  pub record_is : IsRecord bytes values
  pub makes : IsRowFrom table rowid values row

-- a cell is a row of the table: its payload is the row's record
pub record IsRowOf (pages : Pages) (table : TableData) (cell : CellData) (row : Row) : Type 0 where
  pub bytes : List ℕ
  pub whole : HasBytes pages cell.payload bytes
  pub is : IsRowRecord table cell.rowid bytes row

-- the cell at a place is this row of the table
pub record StoresRow (pages : Pages) (table : TableData) (place : Place) (row : Row) : Type 0 where
  pub cell : CellData
  pub at : IsRowAt pages place cell
  pub is : IsRowOf pages table cell row

-- the cell at a place is a row of the table, whose values are of its columns
pub record HoldsRow (pages : Pages) (table : TableData) (place : Place) : Type 0 where
  pub row : Row
  pub stores : StoresRow pages table place row
  pub fits : Fits table row

-- the table has these rows, by ascending rowid: one for each cell of its tree
pub record HoldsRows (pages : Pages) (table : TableData) (rows : List Row) : Type 0 where
  pub places : List Place
  pub cells : AreRowsOf pages table.root places
  pub rows_are : AllZip (StoresRow pages table) places rows

-- The same of a tree whose levels are known: the cells under its root from left to right are the rows, and its pages are in
-- order, by which a search goes.
pub record IsStored (pages : Pages) (table : TableData) (levels : ℕ) (rows : List Row) : Type 0 where
  pub shape : HasShape pages Table levels table.root
  pub order : (n : ℕ) → Reaches pages Table table.root n → IsRowOrder pages table.root n
  pub cells : AreRowsOf pages table.root (places_under pages Table levels table.root)
  pub rows_are : AllZip (StoresRow pages table) (places_under pages Table levels table.root) rows
  pub fit : All (Fits table) rows
