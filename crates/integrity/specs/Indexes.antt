-- The indexes of an image: their trees, and their entries beside the rows of their tables. (Database File Format, section 2.3
-- "Representation Of SQL Indices", and section 2.4 "Representation Of WITHOUT ROWID Tables"; Partial Indexes; CREATE INDEX, "Unique Indexes"; the faults of docs/FAULTS.md)
use Rattle.std.specs.Prelude.{◌≡◌, ℕ, suc, Bool, true, false, Contains, List, Some, length, map, slice_get, string_bytes}
use Rattle.values.specs.declared.fault.Fault.{Fault}
use Rattle.values.specs.declared.fault.Fault.TheVariants.{IndexDiffers, NotUnique}
use Rattle.values.specs.Row.{Row}
use Rattle.sql_reader_grammar.specs.declared.create_trees.create.KeyOrder.{KeyOrder}
use Rattle.sql_reader_grammar.specs.declared.create_trees.create.KeyOrder.TheVariants.{Ascending, Descending}
use Rattle.btree.specs.image.Pages.{IsNumber, Pages}
use Rattle.integrity_trees.specs.wanted_entries.Wanted.{IndexedPlaces, KeyedRow}
use Rattle.schema_keys.specs.Names.{IsSameName}
use Rattle.schema_tables.specs.TableData.{TableData}
use Rattle.schema.specs.indexes.IndexData.{IndexData}
use Rattle.schema.specs.CatalogData.{CatalogData}
use Rattle.integrity_trees.specs.declared.tree_walk.counts.TreeCounts.{TreeCounts}
use Rattle.integrity_trees.specs.index_walk.Widths.{exactly}
use Rattle.integrity_trees.specs.index_walk.Broken.{IsBrokenIndex}
use Rattle.integrity_trees.specs.index_walk.Checked.{IsCheckedIndex, IsIndexWalkFault}
use Rattle.integrity_trees.specs.entry_prefixes.Entries.{HoldsEntries}
use Rattle.integrity_trees.specs.entry_prefixes.Prefixes.{HasCount}
use Rattle.integrity_trees.specs.entry_prefixes.Repeats.{HasRepeats, IsUniqueIndex}
use Rattle.integrity_indexes.specs.index_rows.Checked.{IsCheckedTable}
use Rattle.integrity_indexes.specs.index_rows.Compared.{IsDifferentIndex, IsIndexOf}
use Rattle.integrity_indexes.specs.index_rows.Entries.{TellsRow, width_by}
use Rattle.integrity_indexes.specs.index_rows.Indexed.{HoldsIndexedRows}
use Rattle.integrity.specs.declared.index_trees.IndexCounts.{IndexCounts}
use Rattle.integrity.specs.Denotes.{HasCatalog}

abbrev pub is_descending : KeyOrder → Bool
is_descending Ascending = false
is_descending Descending = true

-- which of an index's columns descend
abbrev pub descends_of : IndexData → List Bool
descends_of index = map (λ c. is_descending c.order) index.columns

-- the places of its columns in the table
abbrev pub places_of : IndexData → List ℕ
places_of index = map (λ c. c.place) index.columns

-- they, and the places of the columns that its entries have behind them where the table has no rowids
abbrev pub columns_of : IndexData → IndexedPlaces
columns_of index = record { columns = places_of index; others = index.others }

-- how many values an entry has
abbrev pub width_of : TableData → IndexData → ℕ
width_of table index = width_by table.key (columns_of index)

-- the tree of an index of a table was checked
abbrev pub IsCheckedIndexTree : Pages → TableData → IndexData → TreeCounts → Type 0
IsCheckedIndexTree pages table index counts = IsCheckedIndex pages (exactly (width_of table index)) (descends_of index) index.root counts

-- An index is one of these tables', of that which alone has its table's name; and its entries tell the rows of this table.
pub record IsOwned (tables : List TableData) (index : IndexData) : Type 0 where
  pub table : TableData
  pub is_table : Contains tables table
  pub owner : IsSameName index.table table.name
  pub tells : TellsRow table.key (columns_of index)
  pub alone : (other : TableData) → Contains tables other → IsSameName index.table other.name → other ≡ table

-- The entries of the tree that has this root have so many different values in their first columns, for each number of columns up
-- to this one.
pub record HasDistinct (pages : Pages) (root width : ℕ) (distinct : List ℕ) : Type 0 where
  pub entries : List Row
  pub entries_are : HoldsEntries pages root entries
  pub long : length distinct ≡ width
  pub counts : (columns count : ℕ) → slice_get distinct columns ≡ Some count → HasCount entries (suc columns) count

-- These are the counts of an index of a table that was checked, no two entries of which agree where it is unique.
pub record IsCheckedAlone (pages : Pages) (table : TableData) (index : IndexData) (counts : IndexCounts) : Type 0 where
  pub tree : IsCheckedIndexTree pages table index counts.tree
  pub distinct : HasDistinct pages index.root (length (places_of index)) counts.distinct.items
  pub unique : index.is_unique ≡ true → IsUniqueIndex pages index.root (length (places_of index))

-- the same of an index of one of these tables
pub record IsCheckedIndexOf (pages : Pages) (tables : List TableData) (index : IndexData) (counts : IndexCounts) : Type 0 where
  pub owned : IsOwned tables index
  pub checked : IsCheckedAlone pages owned.table index counts

-- and it lists rows of its table, in the order of its entries, in a tree of as many levels as were counted
pub record ListsRows (pages : Pages) (tables : List TableData) (index : IndexData) (counts : IndexCounts) : Type 0 where
  pub counted : IsCheckedIndexOf pages tables index counts
  pub rows : List KeyedRow
  pub holds : HoldsIndexedRows pages counted.owned.table (columns_of index) index.condition (descends_of index) counts.tree.levels index.root rows

-- an index of one of these tables was checked, and has so many entries
pub record IsCheckedIndexWith (pages : Pages) (tables : List TableData) (index : IndexData) (entries : ℕ) : Type 0 where
  pub owned : IsOwned tables index
  pub counts : TreeCounts
  pub number : IsNumber pages index.root
  pub tree : IsCheckedIndexTree pages owned.table index counts
  pub entries_are : entries ≡ counts.cells

-- the trees of an index and of its table were checked
pub record IsCheckedWith (pages : Pages) (table : TableData) (index : IndexData) (entries : ℕ) : Type 0 where
  pub table_is : IsCheckedTable pages table
  pub counts : TreeCounts
  pub number : IsNumber pages index.root
  pub tree : IsCheckedIndexTree pages table index counts
  pub entries_are : entries ≡ counts.cells
  pub tells : TellsRow table.key (columns_of index)

-- an index of the image, and its table
pub record IsTableIndex (pages : Pages) (table : TableData) (index : IndexData) : Type 0 where
  pub rows : List Row
  pub catalog : CatalogData
  pub has : HasCatalog pages rows catalog
  pub is_index : Contains catalog.indexes index
  pub is_table : Contains catalog.tables table
  pub owner : IsSameName index.table table.name

-- the condition on an index's tree, or on its entries beside one another, that a fault says is broken
abbrev pub IsBrokenIndexTree : Pages → TableData → IndexData → Fault → Type 0
IsBrokenIndexTree pages table index (NotUnique name) =
    (string_bytes name ≡ index.name) × (index.is_unique ≡ true) × HasRepeats pages index.root (length (places_of index))
IsBrokenIndexTree pages table index fault = IsBrokenIndex pages (exactly (width_of table index)) (descends_of index) index.root fault

-- the faults of the check of an index's tree, and of its entries beside one another
abbrev pub IsIndexCheckFault : Fault → Type 0
IsIndexCheckFault (NotUnique _) = Unit {0}
IsIndexCheckFault fault = IsIndexWalkFault fault

-- the condition on an index's entries beside its table's rows that a fault says is broken
abbrev pub AreBrokenEntries : Pages → TableData → IndexData → Fault → Type 0
AreBrokenEntries pages table index (IndexDiffers name) =
    (string_bytes name ≡ index.name) × IsDifferentIndex pages table (columns_of index) index.condition index.root
AreBrokenEntries pages table index _ = ⊥

-- the index has exactly the entries that the rows of its table want which its condition keeps
abbrev pub AreItsEntries : Pages → TableData → IndexData → Type 0
AreItsEntries pages table index = IsIndexOf pages table (columns_of index) index.condition index.root
