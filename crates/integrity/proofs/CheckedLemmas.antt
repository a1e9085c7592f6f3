-- From what was checked to the tables that the pages have.
use Rattle.std.proofs.Common.{◌≡◌, ◌<◌, ℕ, zero, suc, refl, All, Contains, List, [], ◌∷◌, length, arith, subst, sym, inl, inr}
use Rattle.std.specs.List.{AllZip}
use Rattle.std.proofs.lemmas.List.Elements.{All-cons, All-nil}
use Rattle.values.specs.declared.fault.Fault.{Fault}
use Rattle.values.specs.declared.fault.Fault.TheVariants.{ReadFailed, NoMemory, PageUse, BadFreelist, SchemaRow, SchemaText, UnsupportedObject, IndexDiffers, NotUnique}
use Rattle.btree.specs.image.Pages.{Pages}
use Rattle.btree.specs.image.Shape.{most_levels}
use Rattle.btree.specs.image.Tree.{Place}
use Rattle.btree.specs.page_use.Marks.{IsUseFault}
use Rattle.values.specs.Row.{Row}
use Rattle.schema_tables.specs.TableData.{IsKeyWithin, RowKeyData, TableData, schema_table}
use Rattle.integrity_trees.specs.declared.tree_walk.counts.TreeCounts.{TreeCounts}
use Rattle.schema.proofs.LawLemmas.{row_of_table}
use Rattle.schema.specs.CatalogData.{CatalogData}
use Rattle.schema.specs.Refused.{IsRefusedSchema}
use Rattle.integrity.specs.Checked.{HasCause, IsCheckFault, IsTableOf, said}
use Rattle.integrity.specs.Denotes.{HasCatalog, HasTables}
use Rattle.records_tables.specs.Tables.{IsAnyStored, IsStoredBy}
use Rattle.integrity.specs.Tables.{IsAnyBroken, IsAnyChecked}
use Rattle.integrity_indexes.specs.index_rows.Checked.{IsCheckedBy}
use Rattle.integrity_trees.specs.primary_walk.Checked.{IsCheckedPrimary}
use Rattle.integrity_trees.proofs.lemmas.primary_walk.HeldLemmas.{rows_held, rows_stand}
use Rattle.records_tables.specs.stored_rows.Stored.{HoldsRows, StoresRow}
use Rattle.integrity_trees.specs.table_walk.Checked.{IsCheckedTree}
use Rattle.integrity_trees.specs.table_walk.Walked.{IsWalkFault}
use Rattle.integrity_trees.proofs.lemmas.table_walk.CheckedLemmas.{stored_table}
use Rattle.btree.proofs.lemmas.image.ListLemmas.{in_head, in_tail}
use Rattle.integrity.proofs.OwnerLemmas.{within_key}

module _ (pages : Pages) where
  -- a table that was checked is stored
  record IsStoredTree (key : RowKeyData) (table : TableData) : Type 0 where
    levels : ℕ
    rows : List Row
    few : levels < most_levels
    stored : IsStoredBy key pages table levels rows

  stored_primary : (places : List ℕ) (table : TableData) (counts : TreeCounts) → IsKeyWithin table.key (length table.columns) → IsCheckedPrimary pages table counts
      → IsStoredTree (RowKeyData.Primary places) table
  stored_primary places table counts within checked =
      let held = rows_held pages table within counts checked in
      record {
        levels = counts.levels;
        rows = held.0;
        few = checked.tree.few;
        stored = record {
          shape = checked.tree.shape;
          rows_are = rows_stand pages table within counts checked;
          holds = held.1;
          fit = held.2;
        };
      }

  stored_by : (key : RowKeyData) (table : TableData) (counts : TreeCounts) → IsKeyWithin table.key (length table.columns)
      → IsCheckedBy key pages table counts → IsStoredTree key table
  stored_by (RowKeyData.Rowid place) table counts within checked =
      let is = stored_table pages table counts checked in
      record { levels = is.levels; rows = is.rows; few = is.few; stored = is.stored }
  stored_by (RowKeyData.Primary places) table counts within checked = stored_primary places table counts within checked

  any_stored : (table : TableData) (counts : TreeCounts) → IsKeyWithin table.key (length table.columns) → IsAnyChecked pages table counts
      → IsAnyStored pages table
  any_stored table counts within checked =
      let is = stored_by table.key table counts within checked in
      record { levels = is.levels; rows = is.rows; few = is.few; stored = is.stored }

  stored_tables : (tables : List TableData) (trees : List TreeCounts) → ((table : TableData) → Contains tables table → IsKeyWithin table.key (length table.columns))
      → AllZip (IsAnyChecked pages) tables trees → All (IsAnyStored pages) tables
  stored_tables [] [] within all = All-nil (IsAnyStored pages)
  stored_tables [] (counts ∷ trees) within all = absurd all
  stored_tables (table ∷ tables) [] within all = absurd all
  stored_tables (table ∷ tables) (counts ∷ trees) within all =
      All-cons (IsAnyStored pages) table tables (any_stored table counts (within table (in_head table tables)) all.0)
      (stored_tables tables trees (λ other h. within other (in_tail table other tables h)) all.1)

  pub has_tables : (rows : List Row) (catalog : CatalogData) (own : TreeCounts) (trees : List TreeCounts) → HasCatalog pages rows catalog
      → IsCheckedTree pages schema_table own → AllZip (IsAnyChecked pages) catalog.tables trees → HasTables pages catalog.tables
  has_tables rows catalog own trees has own_checked checked = record {
    schema = rows;
    indexes = catalog.indexes;
    catalog = has;
    own = let is = stored_table pages schema_table own own_checked in record { levels = is.levels; rows = is.rows; few = is.few; stored = is.stored };
    stored = stored_tables catalog.tables trees (within_key pages.count rows catalog has.says) checked;
  }

  -- the place of a row
  place_of : (places : List Place) (rows : List Row) (row : Row) → AllZip (StoresRow pages schema_table) places rows → Contains rows row
      → (place : Place) × Contains places place × StoresRow pages schema_table place row
  place_of [] [] row stored (k, within, is) = absurd (omega (arith, within))
  place_of [] (r ∷ rows) row stored at = absurd stored
  place_of (place ∷ places) [] row stored at = absurd stored
  place_of (place ∷ places) (r ∷ rows) row stored (zero, within, is) =
      (place, (0, omega arith, refl), subst (λ (x : Row). StoresRow pages schema_table place x) is stored.0)
  place_of (place ∷ places) (r ∷ rows) row stored (suc k, within, is) =
      let found = place_of places rows row stored.1 (k, omega (arith, within), is) in
      let there = found.1 in
      let less = there.1 in
      (found.0, (suc there.0, omega (arith, less), there.2), found.2)

  module _ (rows : List Row) (catalog : CatalogData) (has : HasCatalog pages rows catalog) where
    -- each table that the rows say is one of the image
    table_of : (table : TableData) → Contains catalog.tables table → IsTableOf pages table
    table_of table among =
        let from = row_of_table pages.count rows catalog has.says table among in
        let at = place_of has.stored.places rows from.0 has.stored.rows_are from.1 in
        said at.0 from.0 (has.stored.cells.cells.sound at.0 at.1) at.2 from.2

    pub broken_table : (table : TableData) (fault : Fault) → Contains catalog.tables table → IsAnyBroken pages table fault
        → HasCause pages fault
    broken_table table fault among broken = inr (inl (table, table_of table among, broken))

  -- rows that were refused have the condition that a fault says
  pub refused_rows : (rows : List Row) → HoldsRows pages schema_table rows → (fault : Fault) → IsRefusedSchema pages.count rows fault
      → HasCause pages fault
  refused_rows rows stored NoMemory is = inl (inr refl)
  refused_rows rows stored fault is = inr (inr (inr (inl (rows, stored, is))))

pub refused_here : (n m : ℕ) (rows others : List Row) (fault : Fault) → n ≡ m → rows ≡ others → IsRefusedSchema n rows fault
    → IsRefusedSchema m others fault
refused_here n m rows others fault same_count same refused =
    subst (λ (k : ℕ). IsRefusedSchema k others fault) same_count (subst (λ (r : List Row). IsRefusedSchema n r fault) same refused)

-- the faults of a check
pub only_memory : (fault : Fault) → fault ≡ NoMemory → IsCheckFault fault
only_memory fault is = subst (λ (x : Fault). IsCheckFault x) (sym is) tt

pub refused_only : (n : ℕ) (rows : List Row) (fault : Fault) → IsRefusedSchema n rows fault → IsCheckFault fault
refused_only n rows NoMemory h = tt
refused_only n rows SchemaRow h = tt
refused_only n rows (SchemaText name) h = tt
refused_only n rows (UnsupportedObject name) h = tt
refused_only n rows fault h = absurd h

pub use_only : (fault : Fault) → IsUseFault fault → IsCheckFault fault
use_only ReadFailed h = tt
use_only NoMemory h = tt
use_only (PageUse n) h = tt
use_only BadFreelist h = tt
use_only fault h = absurd h

pub walk_only : (fault : Fault) → IsWalkFault fault → IsCheckFault fault
walk_only (PageUse n) h = tt
walk_only BadFreelist h = tt
walk_only SchemaRow h = tt
walk_only (SchemaText name) h = tt
walk_only (UnsupportedObject name) h = tt
walk_only (IndexDiffers name) h = absurd h
walk_only (NotUnique name) h = absurd h
walk_only fault h = h
