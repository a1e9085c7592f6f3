-- What the check of a table's tree finds. (Database File Format, section 1.6 "B-tree Pages"; ROWIDs and the INTEGER PRIMARY
-- KEY)
use Rattle.std.specs.Prelude.{◌⊎◌, ◌<◌, ℕ, All, Bool, List}
use Rattle.values.specs.declared.fault.Fault.{Fault}
use Rattle.values.specs.Row.{Row}
use Rattle.pager.specs.Calls.{IsReadFault}
use Rattle.pager.specs.PagerState.{PagerState}
use Rattle.btree.specs.declared.image.kind.TreeKind.TheVariants.{Table}
use Rattle.btree.specs.image.Pages.{Pages, WhereSteady}
use Rattle.btree.specs.image.Shape.{HasShape, most_levels, places_under}
use Rattle.btree.specs.image.Sound.{IsSoundTable}
use Rattle.btree.specs.image.Use.{TreeData}
use Rattle.schema_tables.specs.TableData.{TableData}
use Rattle.records_tables.specs.stored_rows.Links.{table_tree}
use Rattle.records_tables.specs.stored_rows.RowFaults.{IsBrokenTable}
use Rattle.records_tables.specs.stored_rows.Stored.{HoldsRow, IsStored}
use Rattle.integrity_trees.specs.declared.tree_walk.counts.TreeCounts.{TreeCounts}
use Rattle.integrity_trees.specs.tree_walk.Counts.{AreCounts}
use Rattle.integrity_trees.specs.tree_walk.Used.{IsTreeTwice}
use Rattle.integrity_trees.specs.table_walk.Walked.{IsWalkFault}

abbrev pub tree_of : TableData → TreeData
tree_of table = table_tree table.root

-- the table is stored in a tree of fewer than 20 levels below its root
pub record IsStoredTable (pages : Pages) (table : TableData) : Type 0 where
  pub levels : ℕ
  pub rows : List Row
  pub few : levels < most_levels
  pub stored : IsStored pages table levels rows

-- A table's tree is sound and its cells are rows of the table, whose values are of its columns; and these are its
-- levels, rows and pages.
pub record IsCheckedTree (pages : Pages) (table : TableData) (counts : TreeCounts) : Type 0 where
  pub few : counts.levels < most_levels
  pub sound : IsSoundTable pages table.root
  pub shape : HasShape pages Table counts.levels table.root
  pub rows : All (HoldsRow pages table) (places_under pages Table counts.levels table.root)
  pub counts_are : AreCounts pages Table counts.levels table.root counts.cells counts.pages

-- the tree of a table was checked
pub record HasCheckedTable (pager : PagerState) (table : TableData) (counts : TreeCounts) : Type 0 where
  pub few : counts.levels < most_levels
  pub tree : WhereSteady pager (λ pages. IsCheckedTree pages table counts)

-- why it was not, where these were the marks of pages that are used
pub record IsTableFault (pager : PagerState) (table : TableData) (marks : List Bool) (fault : Fault) : Type 0 where
  pub only : IsWalkFault fault
  pub cause : WhereSteady pager (λ pages. IsReadFault fault ⊎ IsBrokenTable pages table fault ⊎ IsTreeTwice pages (tree_of table) marks fault)
