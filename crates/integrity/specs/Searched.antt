-- The tables and indexes of an image that was checked, as searches go through them. (Database File Format, section 2.3
-- "Representation Of SQL Tables" and "Representation Of SQL Indices", and section 2.4 "Representation Of WITHOUT ROWID Tables";
-- Partial Indexes)
use Rattle.std.specs.Prelude.{◌≡◌, ℕ, All, Bool, IsPermutation, List, [], ◌∷◌, None, Some, filter, length, map, take}
use Rattle.std.specs.List.{AllZip}
use Rattle.values.specs.Row.{Row}
use Rattle.btree.specs.image.Pages.{Pages}
use Rattle.schema.specs.indexes.IndexData.{IndexData}
use Rattle.schema_tables.specs.TableData.{RowKeyData, TableData, schema_table}
use Rattle.integrity_indexes.specs.index_rows.Kept.{keeps_row}
use Rattle.records_tables.specs.primary_rows.Firsts.{firsts}
use Rattle.records_tables.specs.Tables.{IsAnyStored}
use Rattle.records_searches.specs.Entries.{EntryData, HoldsEntries, of_index, of_table, values_at}
use Rattle.records_searches.specs.Finders.{IsFinderBy}
use Rattle.records_searches.specs.declared.finders.RowIndex.{RowIndex}
use Rattle.integrity.specs.declared.index_trees.IndexCounts.{IndexCounts}
use Rattle.integrity.specs.Checked.{CheckedData}
use Rattle.integrity.specs.Indexes.{IsOwned, descends_of, places_of}

-- the columns by whose values the tree of a table is in order: the rowid, where a column is it, or those of the PRIMARY KEY, each once
abbrev pub key_columns : RowKeyData → List ℕ
key_columns (RowKeyData.Rowid None) = []
key_columns (RowKeyData.Rowid (Some at)) = at ∷ []
key_columns (RowKeyData.Primary places) = firsts [] places

-- an entry begins with the values that its row has in these columns
abbrev pub BeginsBy : List ℕ → EntryData → Type 0
BeginsBy columns entry = take (length columns) entry.values ≡ values_at entry.row columns

-- the rows to which entries lead
abbrev pub entry_rows : List EntryData → List Row
entry_rows entries = map (λ entry. entry.row) entries

-- A table is stored in a tree that has a given number of levels of pages below its root, the entries of which lead to its rows, each entry to the
-- row at its place, whose rowid or PRIMARY KEY it begins with.
pub record IsSearchedTable (pages : Pages) (table : TableData) (levels : ℕ) : Type 0 where
  pub stored : IsAnyStored pages table
  pub levels_are : stored.levels ≡ levels
  pub entries : List EntryData
  pub holds : HoldsEntries (of_table table) pages levels entries
  pub begin : All (BeginsBy (key_columns table.key)) entries
  pub rows_are : entry_rows entries ≡ stored.rows

-- An index of a table is searched as this one: it has this root and these columns' directions, and its entries lead to their rows so.
pub record IsReadAs (table : TableData) (index : IndexData) (read : RowIndex) : Type 0 where
  pub root : read.root ≡ index.root
  pub descends : read.descends.items ≡ descends_of index
  pub finder : IsFinderBy table.key (places_of index) index.others read.finder

-- the rows of its table of which an index has an entry (Partial Indexes)
abbrev pub covers : IndexData → Row → Bool
covers index = keeps_row index.condition

-- So read, the tree of an index, which has a given number of levels of pages below its root, has entries that lead to those rows of the table on
-- which its condition is true, and begin with the values of its columns.
pub record IsSearchedIndex (pages : Pages) (table : TableData) (index : IndexData) (levels : ℕ) (read : RowIndex) : Type 0 where
  pub entries : List EntryData
  pub holds : HoldsEntries (of_index table read) pages levels entries
  pub begin : All (BeginsBy (places_of index)) entries
  pub lists : (stored : IsAnyStored pages table) → IsPermutation (entry_rows entries) (filter (covers index) stored.rows)

-- an index of one of these tables is searched, however it is read
pub record IsSearchedOf (pages : Pages) (tables : List TableData) (index : IndexData) (counts : IndexCounts) : Type 0 where
  pub owned : IsOwned tables index
  pub searched : (read : RowIndex) → IsReadAs owned.table index read → IsSearchedIndex pages owned.table index counts.tree.levels read

-- Of the pages of an image that was checked, the table of its schema, each of its tables and each of its indexes is searched in a tree of
-- as many levels as were counted.
pub record AreSearched (pages : Pages) (checked : CheckedData) : Type 0 where
  pub own : IsSearchedTable pages schema_table checked.schema_tree.levels
  pub tables : AllZip (λ table counts. IsSearchedTable pages table counts.levels) checked.tables checked.trees
  pub indexes : AllZip (IsSearchedOf pages checked.tables) checked.indexes checked.index_counts
