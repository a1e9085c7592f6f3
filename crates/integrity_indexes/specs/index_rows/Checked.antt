-- What is known of a table and of its index whose trees were checked. (Database File Format, section 2.3 "Representation Of
-- SQL Tables" and "Representation Of SQL Indices", and section 2.4 "Representation Of WITHOUT ROWID Tables")
use Rattle.std.specs.Prelude.{◌≡◌, ℕ}
use Rattle.btree.specs.image.Pages.{IsNumber, Pages}
use Rattle.integrity_trees.specs.declared.tree_walk.counts.TreeCounts.{TreeCounts}
use Rattle.integrity_trees.specs.index_walk.Widths.{exactly}
use Rattle.integrity_trees.specs.index_walk.Checked.{IsCheckedIndex}
use Rattle.schema_tables.specs.TableData.{RowKeyData, TableData}
use Rattle.integrity_trees.specs.table_walk.Checked.{IsCheckedTree}
use Rattle.integrity_trees.specs.primary_walk.Checked.{IsCheckedPrimary}
use Rattle.integrity_indexes.specs.declared.index_rows.index.TableIndex.{TableIndex}
use Rattle.integrity_indexes.specs.index_rows.Entries.{TellsRow, indexed_by, width_by}

-- The tree of an index of a table was checked, and has so many entries: the values of its columns, and behind them the rowid or
-- the rest of the PRIMARY KEY.
pub record IsCheckedTableIndex (pages : Pages) (table : TableData) (index : TableIndex) (entries : ℕ) : Type 0 where
  pub counts : TreeCounts
  pub number : IsNumber pages index.root
  pub tree : IsCheckedIndex pages (exactly (width_by table.key (indexed_by index))) index.descends.now index.root counts
  pub entries_are : entries ≡ counts.cells
  pub tells : TellsRow table.key (indexed_by index)

-- the tree of a table whose rows are found so was checked, and has so much
abbrev pub IsCheckedBy : RowKeyData → Pages → TableData → TreeCounts → Type 0
IsCheckedBy (RowKeyData.Rowid place) pages table counts = IsCheckedTree pages table counts
IsCheckedBy (RowKeyData.Primary places) pages table counts = IsCheckedPrimary pages table counts

-- the tree of a table was checked
pub record IsCheckedTable (pages : Pages) (table : TableData) : Type 0 where
  pub counts : TreeCounts
  pub number : IsNumber pages table.root
  pub tree : IsCheckedBy table.key pages table counts
