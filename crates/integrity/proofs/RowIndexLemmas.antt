-- The rows of the indexes that were checked, in the order of their entries.
use Rattle.std.proofs.Common.{All, Contains, List, [], ◌∷◌}
use Rattle.std.specs.List.{AllZip}
use Rattle.std.proofs.lemmas.List.Elements.{All-head, All-tail}
use Rattle.values.specs.Row.{Row}
use Rattle.btree.specs.image.Pages.{IsNumber, Pages}
use Rattle.btree.proofs.lemmas.image.ListLemmas.{in_head, in_tail}
use Rattle.schema.specs.CatalogData.{CatalogData}
use Rattle.schema.specs.indexes.IndexData.{IndexData}
use Rattle.schema_tables.specs.TableData.{TableData}
use Rattle.integrity_indexes.proofs.lemmas.index_rows.IndexedLemmas.{holds_indexed}
use Rattle.integrity.specs.declared.index_trees.IndexCounts.{IndexCounts}
use Rattle.integrity.specs.Denotes.{HasCatalog}
use Rattle.integrity.specs.Indexes.{AreItsEntries, IsCheckedIndexOf, ListsRows, IsTableIndex, columns_of, descends_of}

module _ (pages : Pages) (rows : List Row) (catalog : CatalogData) (has : HasCatalog pages rows catalog)
    (its : (table : TableData) (index : IndexData) → IsTableIndex pages table index → AreItsEntries pages table index) where
  row_index : (index : IndexData) (counts : IndexCounts) → Contains catalog.indexes index → IsNumber pages index.root
      → IsCheckedIndexOf pages catalog.tables index counts → ListsRows pages catalog.tables index counts
  row_index index counts among number counted =
      let owned = counted.owned in
      let is = its owned.table index (record {
        rows = rows;
        catalog = catalog;
        has = has;
        is_index = among;
        is_table = owned.is_table;
        owner = owned.owner;
      }) in
      let listed = holds_indexed pages owned.table (columns_of index) index.condition (descends_of index) index.root counts.tree number
      counted.checked.tree is in
      record { counted = counted; rows = listed.0; holds = listed.1 }

  -- each index that was checked, and whose entries were held against the rows of its table
  pub row_indexes : (indexes : List IndexData) (counted : List IndexCounts) → ((index : IndexData) → Contains indexes index → Contains catalog.indexes index)
      → All (λ index. IsNumber pages index.root) indexes → AllZip (IsCheckedIndexOf pages catalog.tables) indexes counted
      → AllZip (ListsRows pages catalog.tables) indexes counted
  row_indexes [] [] among numbers checked = tt
  row_indexes [] (counts ∷ counted) among numbers checked = absurd checked
  row_indexes (index ∷ indexes) [] among numbers checked = absurd checked
  row_indexes (index ∷ indexes) (counts ∷ counted) among numbers checked = (
    row_index index counts (among index (in_head index indexes)) (All-head (λ index. IsNumber pages index.root) index indexes numbers) checked.0,
    row_indexes indexes counted (λ other h. among other (in_tail index other indexes h))
        (All-tail (λ index. IsNumber pages index.root) index indexes numbers) checked.1,
  )
