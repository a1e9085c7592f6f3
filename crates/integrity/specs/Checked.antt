-- What the check of an image finds, and what is broken of an image. (Database File Format, section 1.6; The Schema
-- Table; the faults of docs/FAULTS.md)
use Rattle.std.specs.Prelude.{◌⊎◌, All, List, []}
use Rattle.std.specs.List.{AllZip}
use Rattle.values.specs.declared.fault.Fault.{Fault}
use Rattle.values.specs.declared.fault.Fault.TheVariants.{BadPage, BadChain, PageUse, BadFreelist, BadOrder, BadDepth, BadRecord, FloatValue, BadText, SchemaRow, SchemaText, UnsupportedObject, ValueBreaksColumn, IndexDiffers, NotUnique}
use Rattle.pager.specs.Calls.{IsReadFault}
use Rattle.pager.specs.PagerState.{IsPageNumber, PagerState}
use Rattle.btree.specs.declared.image.kind.TreeKind.TheVariants.{Table}
use Rattle.btree.specs.image.Pages.{IsNumber, Pages, WhereSteady}
use Rattle.btree.specs.image.Tree.{Place, IsPlaceOf}
use Rattle.btree.specs.image.Freelist.{IsFreelist}
use Rattle.btree.specs.image.Use.{IsUsedOnce}
use Rattle.btree.specs.page_use.Free.{header_on}
use Rattle.btree.specs.page_use.Marks.{IsUsedTwice}
use Rattle.values.specs.Row.{Row}
use Rattle.schema_keys.specs.Rows.{SaysTable}
use Rattle.schema_tables.specs.TableData.{TableData, schema_table}
use Rattle.schema.specs.indexes.IndexData.{IndexData}
use Rattle.schema.specs.CatalogData.{CatalogData}
use Rattle.schema.specs.Refused.{IsBrokenSchema}
use Rattle.integrity_trees.specs.declared.tree_walk.counts.TreeCounts.{TreeCounts}
use Rattle.integrity_trees.specs.table_walk.Checked.{IsCheckedTree}
use Rattle.integrity_trees.specs.table_walk.Walked.{IsWalkFault}
use Rattle.integrity.specs.declared.index_trees.IndexCounts.{IndexCounts}
use Rattle.integrity.specs.declared.keys.KeyCounts.{KeyCounts}
use Rattle.integrity.specs.Denotes.{HasCatalog, HasTables}
use Rattle.integrity.specs.Indexes.{AreBrokenEntries, AreItsEntries, IsBrokenIndexTree, ListsRows, IsTableIndex}
use Rattle.integrity.specs.Keys.{HasKeyCounts}
use Rattle.integrity.specs.Tables.{IsAnyBroken, IsAnyChecked}
use Rattle.integrity.specs.Used.{users_of}
use Rattle.records_tables.specs.stored_rows.Stored.{HoldsRows, StoresRow}

-- the tables and indexes that an image has, and what the check counts of each, of the tables' keys and of the schema's own tree
pub record CheckedData : Type 0 where
  pub schema_tree : TreeCounts
  pub tables : List TableData
  pub trees : List TreeCounts
  pub key_counts : List KeyCounts
  pub indexes : List IndexData
  pub index_counts : List IndexCounts

-- what was counted of the trees of tables, of their keys and of indexes
pub record FoundData : Type 0 where
  pub trees : List TreeCounts
  pub key_counts : List KeyCounts
  pub index_counts : List IndexCounts

abbrev pub found_data : CheckedData → FoundData
found_data checked = record { trees = checked.trees; key_counts = checked.key_counts; index_counts = checked.index_counts }

-- These are the counts of the trees of these tables, of their keys and of these indexes of theirs, each of which lists rows of its table
-- in the order of its entries.
pub record AreFound (pages : Pages) (tables : List TableData) (indexes : List IndexData) (found : FoundData) : Type 0 where
  pub trees : AllZip (IsAnyChecked pages) tables found.trees
  pub key_counts : AllZip (HasKeyCounts pages) tables found.key_counts
  pub listed : AllZip (ListsRows pages tables) indexes found.index_counts

-- a table of the image: that of the schema, or one that a row of the schema says
pub data IsTableOf (pages : Pages) : TableData → Type 0 where
  schema : IsTableOf pages schema_table
  said : {table : TableData} (place : Place) (row : Row) → IsPlaceOf pages Table schema_table.root place
      → StoresRow pages schema_table place row → SaysTable pages.count row table → IsTableOf pages table

-- a catalog of no table and no index
abbrev pub empty_catalog : CatalogData
empty_catalog = record { tables = []; indexes = [] }

-- The condition on the use of pages that a fault says is broken. A page isn't used exactly once by the trees of the tables
-- and indexes that the image has, with their chains, and the freelist; or it is used twice by the schema's tree and the
-- freelist alone, whatever the schema says. Or the freelist is none of as many pages as the header says.
abbrev pub IsMisused : Pages → Fault → Type 0
IsMisused pages (PageUse n) = IsUsedTwice pages (users_of pages empty_catalog) n
    ⊎ ((rows : List Row) × (catalog : CatalogData) × HasCatalog pages rows catalog × IsNumber pages n × (¬ IsUsedOnce pages (users_of pages catalog) n))
IsMisused pages BadFreelist = ¬ IsFreelist pages (header_on pages).freelist (header_on pages).free_pages
IsMisused pages _ = ⊥

-- an index of the image has it, in its tree or in its entries
abbrev pub HasBrokenIndex : Pages → Fault → Type 0
HasBrokenIndex pages fault = ((table : TableData) × (index : IndexData) × IsTableIndex pages table index × IsBrokenIndexTree pages table index fault)
    ⊎ ((table : TableData) × (index : IndexData) × IsTableIndex pages table index × AreBrokenEntries pages table index fault)

-- one of the tables has the condition that a fault says is broken, or the use of pages has, or the schema's rows have, or one
-- of the indexes
abbrev pub IsBrokenImage : Pages → Fault → Type 0
IsBrokenImage pages fault = ((table : TableData) × IsTableOf pages table × IsAnyBroken pages table fault) ⊎ IsMisused pages fault
    ⊎ ((rows : List Row) × HoldsRows pages schema_table rows × IsBrokenSchema pages.count rows fault) ⊎ HasBrokenIndex pages fault

-- why a check answers a fault
abbrev pub HasCause : Pages → Fault → Type 0
HasCause pages fault = IsReadFault fault ⊎ IsBrokenImage pages fault

-- the faults whose conditions the check examines
abbrev pub IsExamined : Fault → Type 0
IsExamined (BadPage _) = Unit {0}
IsExamined (BadChain _) = Unit {0}
IsExamined (PageUse _) = Unit {0}
IsExamined BadFreelist = Unit {0}
IsExamined (BadOrder _) = Unit {0}
IsExamined (BadDepth _) = Unit {0}
IsExamined (BadRecord _) = Unit {0}
IsExamined FloatValue = Unit {0}
IsExamined BadText = Unit {0}
IsExamined SchemaRow = Unit {0}
IsExamined (SchemaText _) = Unit {0}
IsExamined (UnsupportedObject _) = Unit {0}
IsExamined (ValueBreaksColumn _) = Unit {0}
IsExamined (IndexDiffers _) = Unit {0}
IsExamined (NotUnique _) = Unit {0}
IsExamined _ = ⊥

-- the faults of the check of an image
abbrev pub IsCheckFault : Fault → Type 0
IsCheckFault (PageUse _) = Unit {0}
IsCheckFault BadFreelist = Unit {0}
IsCheckFault SchemaRow = Unit {0}
IsCheckFault (SchemaText _) = Unit {0}
IsCheckFault (UnsupportedObject _) = Unit {0}
IsCheckFault (IndexDiffers _) = Unit {0}
IsCheckFault (NotUnique _) = Unit {0}
IsCheckFault fault = IsWalkFault fault

-- An image was checked: these are its tables and indexes, all that the rows of its schema say, with what was counted of each and
-- of the schema's own tree, and each index has just the entries that its table's rows want, so that it lists these rows in its
-- order; no condition is broken.
pub record HasCheckedImage (pager : PagerState) (checked : CheckedData) : Type 0 where
  pub own_root : IsPageNumber pager schema_table.root
  pub roots : All (λ table. IsPageNumber pager table.root) checked.tables
  pub catalog : WhereSteady pager (λ pages. (rows : List Row)
      × HasCatalog pages rows (record { tables = checked.tables; indexes = checked.indexes }))
  pub tables : WhereSteady pager (λ pages. HasTables pages checked.tables)
  pub schema_tree : WhereSteady pager (λ pages. IsCheckedTree pages schema_table checked.schema_tree)
  pub found : WhereSteady pager (λ pages. AreFound pages checked.tables checked.indexes (found_data checked))
  pub entries : WhereSteady pager (λ pages. (table : TableData) (index : IndexData) → IsTableIndex pages table index → AreItsEntries pages table index)
  pub whole : WhereSteady pager (λ pages. (fault : Fault) → ¬ IsBrokenImage pages fault)
  pub unbroken : WhereSteady pager (λ pages. (fault : Fault) → IsExamined fault → ¬ IsBrokenImage pages fault)

-- why it was not
pub record IsCheckFailure (pager : PagerState) (fault : Fault) : Type 0 where
  pub only : IsCheckFault fault
  pub cause : WhereSteady pager (λ pages. HasCause pages fault)
