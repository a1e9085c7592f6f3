-- The rows of a table, each with its rowid where it has one. (Database File Format, section 2.3 "Representation Of SQL Tables",
-- and section 2.4 "Representation Of WITHOUT ROWID Tables")
use Rattle.std.specs.Prelude.{◌≡◌, List, map, None}
use Rattle.std.specs.List.{AllZip}
use Rattle.values.specs.Datum.{Datum}
use Rattle.values.specs.Row.{Row}
use Rattle.btree.specs.image.Cell.{CellData}
use Rattle.btree.specs.image.Pages.{Pages}
use Rattle.btree.specs.image.Sound.{AreRowsOf}
use Rattle.btree.specs.image.Tree.{IsRowAt, Place}
use Rattle.btree_cursor.specs.index_entries.Entries.{HasRecord}
use Rattle.integrity_trees.specs.wanted_entries.Wanted.{KeyedRow}
use Rattle.schema_tables.specs.TableData.{RowKeyData, TableData}
use Rattle.records_tables.specs.stored_rows.Stored.{IsRowOf}
use Rattle.records_tables.specs.primary_rows.Rows.{IsPrimaryRow}
use Rattle.records_tables.specs.primary_rows.Held.{HoldsPrimaryRows}

-- the cell at a place is this row of the table, with this rowid
pub record StoresKeyedRow (pages : Pages) (table : TableData) (place : Place) (keyed : KeyedRow) : Type 0 where
  pub cell : CellData
  pub at : IsRowAt pages place cell
  pub is : IsRowOf pages table cell keyed.row
  pub rowid_is : keyed.rowid ≡ cell.rowid

-- the table has these rows, by ascending rowid: one for each cell of its tree
pub record HoldsKeyedRows (pages : Pages) (table : TableData) (rows : List KeyedRow) : Type 0 where
  pub places : List Place
  pub cells : AreRowsOf pages table.root places
  pub rows_are : AllZip (StoresKeyedRow pages table) places rows

-- the payload of a cell is the record of this row of a table without rowids
pub record IsPrimaryRowOf (pages : Pages) (table : TableData) (cell : CellData) (row : Row) : Type 0 where
  pub values : List Datum
  pub has : HasRecord pages cell values
  pub makes : IsPrimaryRow table values row

-- a row without a rowid
abbrev pub rowless : Row → KeyedRow
rowless row = record { rowid = None; row = row }

-- the table has these rows, in the order of their keys: one for each entry of its tree
pub record HoldsRowlessRows (pages : Pages) (table : TableData) (rows : List KeyedRow) : Type 0 where
  pub values : List Row
  pub holds : HoldsPrimaryRows pages table values
  pub rows_are : rows ≡ map rowless values

-- a cell of the tree of a table whose rows are found so is this row
abbrev pub IsKeyedRow : RowKeyData → Pages → TableData → CellData → KeyedRow → Type 0
IsKeyedRow (RowKeyData.Rowid place) pages table cell keyed = IsRowOf pages table cell keyed.row × (keyed.rowid ≡ cell.rowid)
IsKeyedRow (RowKeyData.Primary places) pages table cell keyed = IsPrimaryRowOf pages table cell keyed.row × (keyed.rowid ≡ None)

-- a table whose rows are found so has these rows, in the order of its tree
abbrev pub HoldsTableRows : RowKeyData → Pages → TableData → List KeyedRow → Type 0
HoldsTableRows (RowKeyData.Rowid place) pages table rows = HoldsKeyedRows pages table rows
HoldsTableRows (RowKeyData.Primary places) pages table rows = HoldsRowlessRows pages table rows
