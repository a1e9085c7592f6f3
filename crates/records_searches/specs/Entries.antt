-- The entries of the trees that are searched, and the rows that they lead to. (Database File Format, section 2.3 "Representation Of SQL
-- Tables" and "Representation Of SQL Indices", and section 2.4 "Representation Of WITHOUT ROWID Tables")
use Rattle.std.specs.Prelude.{◌≡◌, ◌<◌, ◌≤◌, ℕ, ℤ, All, List, [], ◌∷◌, find, length, map, slice_get, slice_index_or, Some}
use Rattle.std.specs.List.{AllZip, filter}
use Rattle.values.specs.Datum.{Datum, int, null}
use Rattle.values.specs.Row.{Row}
use Rattle.btree.specs.declared.image.kind.TreeKind.{TreeKind}
use Rattle.btree.specs.declared.image.kind.TreeKind.TheVariants.{Table, Index}
use Rattle.btree.specs.declared.image.kind.Level.TheVariants.{Leaf}
use Rattle.btree.specs.image.Broken.{HasRowid}
use Rattle.btree.specs.image.Cell.{CellData}
use Rattle.btree.specs.image.Pages.{Pages}
use Rattle.btree.specs.image.Shape.{places_under}
use Rattle.btree.specs.image.Tree.{IsEntryAt, IsPageOf, Place}
use Rattle.btree_cursor.specs.cursor.Found.{IsRowWith, agrees}
use Rattle.btree_cursor.specs.cursor.Search.{HasRowWith, IsSearchable, IsSearchableIndex}
use Rattle.btree_cursor.specs.index_entries.Entries.{HasRecord}
use Rattle.btree_cursor.specs.key_ranges.Ranges.{Range, width}
use Rattle.btree_cursor.specs.key_ranges.Runs.{Ascend}
use Rattle.schema_tables.specs.TableData.{RowKeyData, TableData}
use Rattle.records_tables.specs.Tables.{StoresAnyRow, kind_of}
use Rattle.records_searches.specs.Meets.{meets_range}
use Rattle.records_searches.specs.RowCuts.{IsRowid}
use Rattle.records_searches.specs.declared.finders.RowFinder.{RowFinder}
use Rattle.records_searches.specs.declared.finders.RowFinder.TheVariants as by
use Rattle.records_searches.specs.declared.finders.RowIndex.{RowIndex}

-- An entry of a tree: the values by which a search compares it, and the row that it leads to.
pub record EntryData : Type 0 where
  pub values : List Datum
  pub row : Row

abbrev pub entry_values : EntryData → List Datum
entry_values entry = entry.values

-- those that meet a range, in the order of the tree
abbrev pub entries_in : Range → List EntryData → List EntryData
entries_in range entries = filter (λ entry. meets_range range entry.values) entries

-- each of them has the columns that a range looks at
abbrev pub AreWide : Range → List EntryData → Type 0
AreWide range entries = All (λ entry. width range ≤ length entry.values) entries

-- ---- the entries of a table's own tree

-- the cell at a place is a row of a table, and is compared by its rowid
pub record IsRowEntry (pages : Pages) (table : TableData) (place : Place) (entry : EntryData) : Type 0 where
  pub rowid : ℤ
  pub is_rowid : IsRowid rowid
  pub page : IsPageOf pages Table Leaf place.page
  pub has : HasRowid pages Leaf place.page place.index rowid
  pub values_are : entry.values ≡ int rowid ∷ []
  pub stores : StoresAnyRow pages table place entry.row

-- the payload of the cell at a place is a record of these values
pub record HasRecordAt (pages : Pages) (place : Place) (values : List Datum) : Type 0 where
  pub cell : CellData
  pub at : IsEntryAt pages Index place cell
  pub has : HasRecord pages cell values

-- the same of a table without rowids, whose records begin with the PRIMARY KEY
pub record IsKeyEntry (pages : Pages) (table : TableData) (place : Place) (entry : EntryData) : Type 0 where
  pub has : HasRecordAt pages place entry.values
  pub stores : StoresAnyRow pages table place entry.row

-- of a table whose rows are found so
abbrev pub IsTableEntry : RowKeyData → Pages → TableData → Place → EntryData → Type 0
IsTableEntry (RowKeyData.Rowid at) pages table place entry = IsRowEntry pages table place entry
IsTableEntry (RowKeyData.Primary ats) pages table place entry = IsKeyEntry pages table place entry

-- The tree of a table with rowids, which has this number of levels below its root, has these entries from left to right, in order.
pub record HoldsRowEntries (pages : Pages) (table : TableData) (levels : ℕ) (entries : List EntryData) : Type 0 where
  pub searchable : IsSearchable pages levels table.root
  pub each : AllZip (IsRowEntry pages table) (places_under pages Table levels table.root) entries
  pub ascend : Ascend [] (map entry_values entries)

-- the same of the tree of a table without rowids
pub record HoldsKeyEntries (pages : Pages) (table : TableData) (levels : ℕ) (entries : List EntryData) : Type 0 where
  pub values : Place → List Datum
  pub searchable : IsSearchableIndex pages [] values levels table.root
  pub values_are : map values (places_under pages Index levels table.root) ≡ map entry_values entries
  pub each : AllZip (IsKeyEntry pages table) (places_under pages Index levels table.root) entries
  pub ascend : Ascend [] (map entry_values entries)

abbrev pub HoldsTableEntries : RowKeyData → Pages → TableData → ℕ → List EntryData → Type 0
HoldsTableEntries (RowKeyData.Rowid at) pages table levels entries = HoldsRowEntries pages table levels entries
HoldsTableEntries (RowKeyData.Primary ats) pages table levels entries = HoldsKeyEntries pages table levels entries

-- ---- the entries of an index

-- a table with rowids has one row with this rowid, and it is this one
pub record IsRowOfRowid (pages : Pages) (table : TableData) (rowid : ℤ) (row : Row) : Type 0 where
  pub levels : ℕ
  pub kind_is : kind_of table.key ≡ Table
  pub searchable : IsSearchable pages levels table.root
  pub there : HasRowWith pages levels table.root rowid
  pub only : (place : Place) → IsRowWith pages levels table.root rowid place → StoresAnyRow pages table place row

-- the first record of a table without rowids that begins with this key is this row
pub record IsRowOfKey (pages : Pages) (table : TableData) (key : List Datum) (row : Row) : Type 0 where
  pub levels : ℕ
  pub values : Place → List Datum
  pub kind_is : kind_of table.key ≡ Index
  pub searchable : IsSearchableIndex pages [] values levels table.root
  pub place : Place
  pub first : find (λ at. agrees [] key (values at)) (places_under pages Index levels table.root) ≡ Some place
  pub stores : StoresAnyRow pages table place row

-- the values of an entry at these places
abbrev pub values_at : List Datum → List ℕ → List Datum
values_at values places = map (λ at. slice_index_or values at null) places

-- the kind of the table's tree in which the row is looked up
abbrev pub kind_by : RowFinder → TreeKind
kind_by (by.Rowid at) = Table
kind_by (by.Key places) = Index

-- an entry of an index leads to its row: it has the row's rowid at a place, or its PRIMARY KEY at several
abbrev pub LeadsTo : Pages → TableData → RowFinder → List Datum → Row → Type 0
LeadsTo pages table (by.Rowid at) values row = (rowid : ℤ) × (slice_get values at ≡ Some (int rowid)) × IsRowOfRowid pages table rowid row
LeadsTo pages table (by.Key places) values row =
    All (λ at. at < length values) places.items × IsRowOfKey pages table (values_at values places.items) row

pub record IsIndexEntry (pages : Pages) (table : TableData) (index : RowIndex) (place : Place) (entry : EntryData) : Type 0 where
  pub has : HasRecordAt pages place entry.values
  pub leads : LeadsTo pages table index.finder entry.values entry.row

-- The tree of an index of a table, which has this number of levels below its root, has these entries from left to right, in order.
pub record HoldsIndexEntries (pages : Pages) (table : TableData) (index : RowIndex) (levels : ℕ) (entries : List EntryData) : Type 0 where
  pub values : Place → List Datum
  pub searchable : IsSearchableIndex pages index.descends.items values levels index.root
  pub values_are : map values (places_under pages Index levels index.root) ≡ map entry_values entries
  pub each : AllZip (IsIndexEntry pages table index) (places_under pages Index levels index.root) entries
  pub ascend : Ascend index.descends.items (map entry_values entries)

-- ---- what is searched

-- a table by its rowids or its PRIMARY KEY, or an index of a table
pub data SearchedData : Type 0 where
  of_table : TableData → SearchedData
  of_index : TableData → RowIndex → SearchedData

-- the kind of its tree, and the page at the root
abbrev pub kind_in : SearchedData → TreeKind
kind_in (of_table table) = kind_of table.key
kind_in (of_index table index) = Index

abbrev pub root_in : SearchedData → ℕ
root_in (of_table table) = table.root
root_in (of_index table index) = index.root

abbrev pub IsEntryIn : SearchedData → Pages → Place → EntryData → Type 0
IsEntryIn (of_table table) pages place entry = IsTableEntry table.key pages table place entry
IsEntryIn (of_index table index) pages place entry = IsIndexEntry pages table index place entry

-- its tree has this number of levels below its root, and these entries from left to right
abbrev pub HoldsEntries : SearchedData → Pages → ℕ → List EntryData → Type 0
HoldsEntries (of_table table) pages levels entries = HoldsTableEntries table.key pages table levels entries
HoldsEntries (of_index table index) pages levels entries = HoldsIndexEntries pages table index levels entries
