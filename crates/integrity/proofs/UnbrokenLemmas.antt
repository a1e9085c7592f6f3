-- Nothing is broken of tables that were checked.
use Rattle.std.proofs.Common.{◌≡◌, Contains, ℕ, zero, suc, List, [], ◌∷◌, arith, subst, inl, inr}
use Rattle.std.specs.List.{AllZip}
use Rattle.values.specs.declared.fault.Fault.{Fault}
use Rattle.values.specs.Row.{Row}
use Rattle.btree.specs.image.Pages.{Pages}
use Rattle.btree.specs.image.Tree.{Place}
use Rattle.schema_tables.specs.TableData.{RowKeyData, TableData, schema_table}
use Rattle.schema.proofs.LawLemmas.{said_of_them}
use Rattle.schema.specs.CatalogData.{CatalogData}
use Rattle.schema.specs.Refused.{IsBrokenSchema}
use Rattle.schema.specs.Says.{IsCatalog}
use Rattle.integrity_trees.specs.declared.tree_walk.counts.TreeCounts.{TreeCounts}
use Rattle.records_tables.specs.stored_rows.Stored.{HoldsRows, StoresRow}
use Rattle.records_tables.proofs.lemmas.stored_rows.OneLemmas.{one_stored}
use Rattle.integrity_trees.specs.table_walk.Checked.{IsCheckedTree}
use Rattle.integrity_trees.proofs.lemmas.table_walk.CheckedLemmas.{rows_fit, unbroken_table}
use Rattle.integrity_indexes.specs.index_rows.Checked.{IsCheckedBy}
use Rattle.integrity_trees.proofs.lemmas.primary_walk.UnbrokenLemmas.{unbroken}
use Rattle.integrity.specs.Denotes.{HasCatalog}
use Rattle.integrity.specs.Tables.{IsAnyChecked, IsBrokenBy}
use Rattle.integrity.specs.Checked.{HasBrokenIndex, IsBrokenImage, IsMisused, said, schema}

module _ (pages : Pages) where
  -- the catalog that rows say which were read from a tree that was checked
  pub catalog_here : (n : ℕ) (rows others : List Row) (counts : TreeCounts) (catalog : CatalogData) → IsCheckedTree pages schema_table counts
      → HoldsRows pages schema_table rows → n ≡ pages.count → others ≡ rows → IsCatalog n others catalog → HasCatalog pages rows catalog
  catalog_here n rows others counts catalog tree stored same_count same rows_say = record {
    stored = stored;
    fit = rows_fit pages schema_table counts rows tree stored;
    says = subst (λ (k : ℕ). IsCatalog k rows catalog) same_count (subst (λ (r : List Row). IsCatalog n r catalog) same rows_say);
  }

  -- the row at a place
  row_at : (places : List Place) (rows : List Row) (place : Place) (row : Row) → AllZip (StoresRow pages schema_table) places rows
      → StoresRow pages schema_table place row → Contains places place → Contains rows row
  row_at [] rows place row stored is (k, within, at) = absurd (omega (arith, within))
  row_at (p ∷ places) [] place row stored is at = absurd stored
  row_at (p ∷ places) (r ∷ rows) place row stored is (zero, within, at) =
      (0, omega arith, one_stored pages schema_table place r row (subst (λ (x : Place). StoresRow pages schema_table x r) at stored.0) is)
  row_at (p ∷ places) (r ∷ rows) place row stored is (suc k, within, at) =
      let found = row_at places rows place row stored.1 is (k, omega (arith, within), at) in
      let less = found.1 in
      (suc found.0, omega (arith, less), found.2)

  -- nothing is broken of a table that was checked
  unbroken_by : (key : RowKeyData) (table : TableData) (counts : TreeCounts) → IsCheckedBy key pages table counts → (fault : Fault)
      → IsBrokenBy key pages table fault → ⊥
  unbroken_by (RowKeyData.Rowid place) table counts checked fault broken = unbroken_table pages table counts checked fault broken
  unbroken_by (RowKeyData.Primary places) table counts checked fault broken = unbroken pages table counts checked fault broken

  -- the tree of one of the tables was checked
  checked_in : (tables : List TableData) (trees : List TreeCounts) (table : TableData) → AllZip (IsAnyChecked pages) tables trees
      → Contains tables table → (counts : TreeCounts) × IsAnyChecked pages table counts
  checked_in [] trees table checked (k, within, at) = absurd (omega (arith, within))
  checked_in (t ∷ tables) [] table checked at = absurd checked
  checked_in (t ∷ tables) (c ∷ trees) table checked (zero, within, at) =
      (c, subst (λ (x : TableData). IsAnyChecked pages x c) at checked.0)
  checked_in (t ∷ tables) (c ∷ trees) table checked (suc k, within, at) = checked_in tables trees table checked.1 (k, omega (arith, within), at)

  -- nothing is broken where the trees were checked, no page is misused, the schema's rows are sound and so are the indexes
  pub unbroken_image : (rows : List Row) (catalog : CatalogData) (trees : List TreeCounts) (counts : TreeCounts)
      → IsCheckedTree pages schema_table counts → HasCatalog pages rows catalog → AllZip (IsAnyChecked pages) catalog.tables trees
      → ((fault : Fault) → ¬ IsMisused pages fault)
      → ((others : List Row) → HoldsRows pages schema_table others → (fault : Fault) → ¬ IsBrokenSchema pages.count others fault)
      → ((fault : Fault) → ¬ HasBrokenIndex pages fault)
      → (fault : Fault) → IsBrokenImage pages fault → ⊥
  unbroken_image rows catalog trees counts tree has checked free sound indexed fault (inr (inl broken)) = free fault broken
  unbroken_image rows catalog trees counts tree has checked free sound indexed fault (inr (inr (inl (others, stored, broken)))) =
      sound others stored fault broken
  unbroken_image rows catalog trees counts tree has checked free sound indexed fault (inr (inr (inr broken))) = indexed fault broken
  unbroken_image rows catalog trees counts tree has checked free sound indexed fault (inl (table, schema, broken)) =
      unbroken_table pages schema_table counts tree fault broken
  unbroken_image rows catalog trees counts tree has checked free sound indexed fault (inl (table, said place row is_place is says, broken)) =
      let among = row_at has.stored.places rows place row has.stored.rows_are is (has.stored.cells.cells.complete place is_place) in
      let found = checked_in catalog.tables trees table checked (said_of_them pages.count rows catalog has.says row among table says) in
      unbroken_by table.key table found.0 found.1 fault broken
