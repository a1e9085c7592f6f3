-- What the check of an image leaves for searches.
use Rattle.std.proofs.Common.{◌≡◌, ℕ, All, Contains, IsPermutation, List, [], ◌∷◌, length, map, sym, subst}
use Rattle.std.specs.List.{AllZip, filter}
use Rattle.std.proofs.lemmas.List.Sorted.{IsPermutation-sym}
use Rattle.values.specs.Row.{Row}
use Rattle.pager.specs.PagerState.{PagerState}
use Rattle.btree.specs.image.Pages.{IsNumber, Pages, WhereSteady, pages_seen}
use Rattle.btree.specs.image.Shape.{HasShape}
use Rattle.btree.proofs.lemmas.image.ListLemmas.{in_head, in_tail}
use Rattle.schema.specs.indexes.IndexData.{IndexData}
use Rattle.schema_tables.specs.TableData.{IsKeyWithin, RowKeyData, TableData, schema_table}
use Rattle.records_tables.specs.Tables.{IsAnyStored, IsStoredBy, kind_of}
use Rattle.records_tables.proofs.TableLemmas.{stored_shape}
use Rattle.records_searches.specs.Entries.{HoldsEntries, of_table}
use Rattle.records_searches.specs.declared.finders.RowIndex.{RowIndex}
use Rattle.integrity_trees.specs.declared.tree_walk.counts.TreeCounts.{TreeCounts}
use Rattle.integrity_trees.proofs.lemmas.entry_prefixes.ListLemmas.{get_of, has_beside}
use Rattle.integrity_indexes.specs.index_rows.Checked.{IsCheckedBy}
use Rattle.integrity_indexes.specs.index_rows.Indexed.{HoldsIndexedRows}
use Rattle.integrity_indexes.specs.index_rows.Kept.{keeps_row}
use Rattle.integrity.specs.declared.index_trees.IndexCounts.{IndexCounts}
use Rattle.integrity.specs.Checked.{CheckedData, HasCheckedImage}
use Rattle.integrity.specs.Indexes.{ListsRows, columns_of, descends_of}
use Rattle.integrity.specs.Searched.{AreSearched, IsReadAs, IsSearchedIndex, IsSearchedOf, IsSearchedTable}
use Rattle.integrity.specs.Tables.{HoldsRowsBy, IsAnyChecked}
use Rattle.integrity.proofs.BeginLemmas.{index_begin, table_begin}
use Rattle.integrity.proofs.LevelLemmas.{one_levels}
use Rattle.integrity.proofs.ListedLemmas.{listed}
use Rattle.integrity.proofs.OwnerLemmas.{within_key}
use Rattle.integrity.proofs.SearchedIndexLemmas.{entry_to, holds_index, rows_to}
use Rattle.integrity.proofs.SearchedTableLemmas.{searched_table}

checked_shape : (key : RowKeyData) (pages : Pages) (table : TableData) (counts : TreeCounts) → IsCheckedBy key pages table counts
    → HasShape pages (kind_of key) counts.levels table.root
checked_shape (RowKeyData.Rowid at) pages table counts checked = checked.shape
checked_shape (RowKeyData.Primary ats) pages table counts checked = checked.tree.shape

module _ (pages : Pages) (table : TableData) (number : IsNumber pages table.root) (counts : TreeCounts) (checked : IsAnyChecked pages table counts)
    (stored : IsAnyStored pages table) (within : IsKeyWithin table.key (length table.columns)) where
  levels_are : stored.levels ≡ counts.levels
  levels_are =
      one_levels pages (kind_of table.key) stored.levels counts.levels table.root (stored_shape pages table stored)
      (checked_shape table.key pages table counts checked)

  pub is_searched : IsSearchedTable pages table counts.levels
  is_searched =
      let found = searched_table pages table number counts stored checked in
      let holds = subst (λ (n : ℕ). HoldsEntries (of_table table) pages n found.0) levels_are found.1 in
      record {
        stored = stored;
        levels_are = levels_are;
        entries = found.0;
        holds = holds;
        begin = table_begin pages table within counts.levels found.0 holds;
        rows_are = found.2;
      }

-- the rows of a table that is stored
holds_by : (key : RowKeyData) (pages : Pages) (table : TableData) (levels : ℕ) (rows : List Row)
    → IsStoredBy key pages table levels rows → HoldsRowsBy key pages table rows
holds_by (RowKeyData.Rowid at) pages table levels rows is = record { places = _; cells = is.cells; rows_are = is.rows_are }
holds_by (RowKeyData.Primary ats) pages table levels rows is = is.holds

-- the element of a list that is in it
in_all : {X : Type 0} (P : X → Type 0) (xs : List X) (x : X) → All P xs → Contains xs x → P x
in_all P xs x all h = subst P h.2 (all h.0 x h.1)

module _ (pages : Pages) (tables : List TableData) (within : (table : TableData) → Contains tables table → IsKeyWithin table.key (length table.columns))
    (trees : List TreeCounts) (checked : AllZip (IsAnyChecked pages) tables trees) (stored : All (IsAnyStored pages) tables)
    (numbers : All (λ table. IsNumber pages table.root) tables) where
  -- the index of a table, however it is read
  index_searched : (index : IndexData) (counts : IndexCounts) (lists : ListsRows pages tables index counts) (read : RowIndex)
      → IsReadAs lists.counted.owned.table index read → IsSearchedIndex pages lists.counted.owned.table index counts.tree.levels read
  index_searched index counts lists read how =
      let owned = lists.counted.owned in
      let table = owned.table in
      let among = owned.is_table in
      let its = has_beside (IsAnyChecked pages) tables trees among.0 table checked (get_of tables table among) in
      let its_stored = in_all (IsAnyStored pages) tables table stored among in
      let holds : HoldsIndexedRows pages table (columns_of index) index.condition read.descends.items counts.tree.levels read.root lists.rows =
      subst (λ (n : ℕ). HoldsIndexedRows pages table (columns_of index) index.condition read.descends.items counts.tree.levels n lists.rows) (sym how.root)
      (subst (λ (d : List _). HoldsIndexedRows pages table (columns_of index) index.condition d counts.tree.levels index.root lists.rows) (sym how.descends) lists.holds) in
      record {
        entries = map (entry_to (columns_of index)) lists.rows;
        holds = holds_index pages table (in_all (λ table. IsNumber pages table.root) tables table numbers among) (within table among) its.y its.holds its_stored
            (columns_of index) owned.tells index.condition counts.tree.levels read how.finder lists.rows holds;
        begin = index_begin (columns_of index) lists.rows;
        lists = λ stored.
            subst (λ (l : List Row). IsPermutation l (filter (keeps_row index.condition) stored.rows)) (sym (rows_to (columns_of index) lists.rows))
            (IsPermutation-sym (filter (keeps_row index.condition) stored.rows) (map (λ keyed. keyed.row) lists.rows)
            (listed pages table (columns_of index) index.condition (descends_of index) counts.tree.levels index.root lists.rows lists.holds stored.rows
            (holds_by table.key pages table stored.levels stored.rows stored.stored)));
      }

  indexes_searched : (indexes : List IndexData) (counted : List IndexCounts) → AllZip (ListsRows pages tables) indexes counted
      → AllZip (IsSearchedOf pages tables) indexes counted
  indexes_searched [] [] all = tt
  indexes_searched [] (counts ∷ counted) all = absurd all
  indexes_searched (index ∷ indexes) [] all = absurd all
  indexes_searched (index ∷ indexes) (counts ∷ counted) all = (
    record { owned = all.0.counted.owned; searched = index_searched index counts all.0 },
    indexes_searched indexes counted all.1,
  )

tables_searched : (pages : Pages) (tables : List TableData) (trees : List TreeCounts) → AllZip (IsAnyChecked pages) tables trees
    → ((table : TableData) → Contains tables table → IsAnyStored pages table × IsNumber pages table.root × IsKeyWithin table.key (length table.columns))
    → AllZip (λ table counts. IsSearchedTable pages table counts.levels) tables trees
tables_searched pages [] [] all each = tt
tables_searched pages [] (counts ∷ trees) all each = absurd all
tables_searched pages (table ∷ tables) [] all each = absurd all
tables_searched pages (table ∷ tables) (counts ∷ trees) all each =
    let here = each table (in_head table tables) in (
      is_searched pages table here.1 counts all.0 here.0 here.2,
      tables_searched pages tables trees all.1 (λ other h. each other (in_tail table other tables h)),
    )

pub image_searched : (pager : PagerState) (checked : CheckedData) → HasCheckedImage pager checked → WhereSteady pager (λ pages. AreSearched pages checked)
image_searched pager checked is steady =
    let pages = pages_seen pager in
    let has = is.catalog steady in
    let tables = is.tables steady in
    let found = is.found steady in
    let within = within_key pages.count has.0 (record { tables = checked.tables; indexes = checked.indexes }) has.1.says in
    record {
      own = is_searched pages schema_table is.own_root checked.schema_tree (is.schema_tree steady) tables.own tt;
      tables = tables_searched pages checked.tables checked.trees found.trees
          (λ table h. (in_all (IsAnyStored pages) checked.tables table tables.stored h, in_all (λ table. IsNumber pages table.root) checked.tables table is.roots h, within table h));
      indexes = indexes_searched pages checked.tables within
          checked.trees found.trees tables.stored is.roots checked.indexes checked.index_counts found.listed;
    }
