-- What the check of the tree of a table without rowids finds. (Database File Format, section 1.6 "B-tree Pages", and section 2.4
-- "Representation Of WITHOUT ROWID Tables"; the faults of docs/FAULTS.md)
use Rattle.std.specs.Prelude.{◌⊎◌, ◌<◌, All, Bool, List, [], length}
use Rattle.values.specs.Datum.{Datum}
use Rattle.values.specs.Row.{Row}
use Rattle.values.specs.declared.fault.Fault.{Fault}
use Rattle.values.specs.declared.fault.Fault.TheVariants.{ValueBreaksColumn}
use Rattle.pager.specs.Calls.{IsReadFault}
use Rattle.pager.specs.PagerState.{PagerState}
use Rattle.btree.specs.declared.image.kind.TreeKind.TheVariants.{Index}
use Rattle.btree.specs.image.Pages.{Pages, WhereSteady}
use Rattle.btree.specs.image.Shape.{most_levels, places_under}
use Rattle.btree.specs.image.Tree.{IsPlaceOf, Place}
use Rattle.btree_cursor.specs.index_entries.Entries.{HasValues}
use Rattle.schema_tables.specs.TableData.{TableData}
use Rattle.records_tables.specs.stored_rows.Stored.{Fits}
use Rattle.integrity_trees.specs.declared.tree_walk.counts.TreeCounts.{TreeCounts}
use Rattle.integrity_trees.specs.tree_walk.Used.{IsTreeTwice}
use Rattle.integrity_trees.specs.declared.index_walk.tree.EntryWidths.{EntryWidths}
use Rattle.integrity_trees.specs.index_walk.Broken.{IsBrokenIndex}
use Rattle.integrity_trees.specs.index_walk.Checked.{IsCheckedIndex, IsIndexWalkFault, index_tree}
use Rattle.records_tables.specs.primary_rows.Held.{StoresPrimaryRow}
use Rattle.records_tables.specs.primary_rows.Order.{key_order, record_order}
use Rattle.records_tables.specs.primary_rows.Rows.{BreaksRow}

-- each entry of the table's tree has the values of its key, and at most one for each of its columns
abbrev pub widths_of : TableData → EntryWidths
widths_of table = record { key = length (key_order table); most = length (record_order table) }

-- the entry at a place is a row of the table, whose values are of its columns
pub record HoldsPrimaryRow (pages : Pages) (table : TableData) (place : Place) : Type 0 where
  pub row : Row
  pub stores : StoresPrimaryRow pages table place row
  pub fits : Fits table row

-- the tree of an index whose entries are rows of the table, in the order of their keys, each of which ascends; and these are its
-- levels, rows and pages
abbrev pub IsKeyTree : Pages → TableData → TreeCounts → Type 0
IsKeyTree pages table counts = IsCheckedIndex pages (widths_of table) [] table.root counts

pub record IsCheckedPrimary (pages : Pages) (table : TableData) (counts : TreeCounts) : Type 0 where
  pub tree : IsKeyTree pages table counts
  pub rows : All (HoldsPrimaryRow pages table) (places_under pages Index counts.levels table.root)

-- an entry of the tree is the record of no row, or of one with a value that isn't of its column, as a fault says
pub record HasBrokenRow (pages : Pages) (table : TableData) (fault : Fault) : Type 0 where
  pub place : Place
  pub is_place : IsPlaceOf pages Index table.root place
  pub values : List Datum
  pub has : HasValues pages is_place.level place.page place.index values
  pub broken : BreaksRow table values place.page fault

-- a page, the order or an entry of the tree has the condition that a fault says is broken
abbrev pub IsBrokenPrimary : Pages → TableData → Fault → Type 0
IsBrokenPrimary pages table fault = IsBrokenIndex pages (widths_of table) [] table.root fault ⊎ HasBrokenRow pages table fault

-- the faults of the check
abbrev pub IsPrimaryWalkFault : Fault → Type 0
IsPrimaryWalkFault (ValueBreaksColumn _) = Unit {0}
IsPrimaryWalkFault fault = IsIndexWalkFault fault

-- the tree of a table was checked
pub record HasCheckedPrimary (pager : PagerState) (table : TableData) (counts : TreeCounts) : Type 0 where
  pub few : counts.levels < most_levels
  pub tree : WhereSteady pager (λ pages. IsCheckedPrimary pages table counts)

-- why it was not, where these were the marks of pages that are used
pub record IsPrimaryFailure (pager : PagerState) (table : TableData) (marks : List Bool) (fault : Fault) : Type 0 where
  pub only : IsPrimaryWalkFault fault
  pub cause : WhereSteady pager (λ pages. IsReadFault fault ⊎ IsBrokenPrimary pages table fault
      ⊎ IsTreeTwice pages (index_tree table.root) marks fault)
