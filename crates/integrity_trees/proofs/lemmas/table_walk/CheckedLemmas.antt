-- What holds of a table whose tree was checked: it is stored, its rows have values of its columns, and nothing of it is broken.
use Rattle.std.proofs.Common.{◌≡◌, ℕ, suc, ◌<◌, All, List, [], ◌∷◌, length, refl, slice_index_or, arith, subst, inl, inr}
use Rattle.std.specs.List.{AllZip}
use Rattle.std.proofs.lemmas.List.Elements.{All-cons, All-head, All-nil, All-tail}
use Rattle.values.specs.declared.fault.Fault.{Fault}
use Rattle.values.specs.Row.{Row}
use Rattle.btree.specs.declared.image.kind.TreeKind.TheVariants.{Table}
use Rattle.btree.specs.image.Cell.{CellData}
use Rattle.btree.specs.image.Pages.{Pages}
use Rattle.btree.specs.image.Shape.{places_under}
use Rattle.btree.specs.image.Tree.{Place}
use Rattle.btree.proofs.lemmas.image.CellLemmas.{one_cell}
use Rattle.btree.proofs.lemmas.image.TableLemmas as table_laws
use Rattle.schema_tables.specs.TableData.{TableData}
use Rattle.records_tables.specs.stored_rows.RowFaults.{HasCellFault, IsBrokenTable}
use Rattle.records_tables.specs.stored_rows.Stored.{Fits, HoldsRow, HoldsRows, IsRowOf, StoresRow}
use Rattle.records_tables.proofs.lemmas.stored_rows.OneLemmas.{one_stored, unbroken_cell}
use Rattle.integrity_trees.specs.declared.tree_walk.counts.TreeCounts.{TreeCounts}
use Rattle.integrity_trees.specs.table_walk.Checked.{IsCheckedTree, IsStoredTable}

module _ (pages : Pages) where
  -- the rows at places
  pub record AreRows (table : TableData) (places : List Place) : Type 0 where
    pub rows : List Row
    pub stored : AllZip (StoresRow pages table) places rows
    pub fit : All (Fits table) rows

  chosen : (table : TableData) (places : List Place) → All (HoldsRow pages table) places → AreRows table places
  chosen table [] held = record { rows = []; stored = tt; fit = All-nil (Fits table) }
  chosen table (place ∷ places) held =
      let first = All-head (HoldsRow pages table) place places held in
      let others = chosen table places (All-tail (HoldsRow pages table) place places held) in
      record {
        rows = first.row ∷ others.rows;
        stored = (first.stores, others.stored);
        fit = All-cons (Fits table) first.row others.rows first.fits others.fit;
      }

  pub stored_table : (table : TableData) (counts : TreeCounts) → IsCheckedTree pages table counts → IsStoredTable pages table
  stored_table table counts tree =
      let rows = chosen table (places_under pages Table counts.levels table.root) tree.rows in
      record {
        levels = counts.levels;
        rows = rows.rows;
        few = tree.few;
        stored = record { shape = tree.shape; order = tree.sound.order; cells = table_laws.rows_of pages table.root counts.levels tree.shape tree.sound.order; rows_are = rows.stored; fit = rows.fit };
      }

  -- at a place at which a row is, whose values are of its columns, no cell has a fault
  unbroken_place : (table : TableData) (fault : Fault) → (broken : HasCellFault pages table fault) → HoldsRow pages table broken.place → ⊥
  unbroken_place table fault broken held =
      let same = one_cell pages broken.place held.stores.cell broken.cell held.stores.at broken.at in
      unbroken_cell pages table broken.cell broken.place.page held.row fault (subst (λ (c : CellData). IsRowOf pages table c held.row) same held.stores.is) held.fits broken.broken

  pub unbroken_table : (table : TableData) (counts : TreeCounts) → IsCheckedTree pages table counts → (fault : Fault) → IsBrokenTable pages table fault → ⊥
  unbroken_table table counts tree fault (inl broken) = table_laws.unbroken pages table.root tree.sound fault broken
  unbroken_table table counts tree fault (inr broken) =
      let cells = table_laws.rows_of pages table.root counts.levels tree.shape tree.sound.order in
      let at = cells.cells.complete broken.place broken.is_place in
      unbroken_place table fault broken (subst (λ (p : Place). HoldsRow pages table p) at.2 (tree.rows at.0 broken.place at.1))

  -- the rows at places where rows are whose values are of the columns
  held_fit : (table : TableData) (places : List Place) (rows : List Row) → ((place : Place) (k : ℕ) → k < length places → slice_index_or places k place ≡ place → HoldsRow pages table place)
      → AllZip (StoresRow pages table) places rows → All (Fits table) rows
  held_fit table [] [] held stored = All-nil (Fits table)
  held_fit table [] (row ∷ rows) held stored = absurd stored
  held_fit table (place ∷ places) [] held stored = absurd stored
  held_fit table (place ∷ places) (row ∷ rows) held stored =
      let here = held place 0 (omega arith) refl in
      All-cons (Fits table) row rows
      (subst (λ (x : Row). Fits table x) (one_stored pages table place here.row row here.stores stored.0) here.fits)
      (held_fit table places rows (λ other k within at. held other (suc k) (omega arith) at) stored.1)

  -- the rows of a tree that was checked have values of its table's columns
  pub rows_fit : (table : TableData) (counts : TreeCounts) (rows : List Row) → IsCheckedTree pages table counts → HoldsRows pages table rows → All (Fits table) rows
  rows_fit table counts rows tree stored =
      let cells = table_laws.rows_of pages table.root counts.levels tree.shape tree.sound.order in
      held_fit table stored.places rows
      (λ place k within at.
      let found = cells.cells.complete place (stored.cells.cells.sound place (k, within, at)) in
      subst (λ (p : Place). HoldsRow pages table p) found.2 (tree.rows found.0 place found.1))
      stored.rows_are
