-- The indexes of an image: which rows of the schema say them, and that nothing of those that were checked is broken.
use Rattle.std.proofs.Common.{◌≡◌, ◌≤◌, ℕ, zero, suc, All, Contains, List, [], ◌∷◌, subst, arith, inl, inr, length}
use Rattle.std.proofs.lemmas.List.Elements.{All-cons, All-head, All-nil, All-tail}
use Rattle.std.specs.List.{AllZip}
use Rattle.values.specs.Row.{Row}
use Rattle.values.specs.declared.fault.Fault.{Fault}
use Rattle.values.specs.declared.fault.Fault.TheVariants.{ReadFailed, NoMemory, BadPage, BadChain, PageUse, BadOrder, BadDepth, BadRecord, FloatValue, BadText, IndexDiffers, NotUnique}
use Rattle.pager.specs.PagerState.{IsPageNumber, PagerState}
use Rattle.btree.specs.image.Pages.{Pages}
use Rattle.schema.specs.indexes.IndexData.{IndexData}
use Rattle.schema_keys.specs.Names.{IsSameName}
use Rattle.schema_tables.specs.TableData.{TableData}
use Rattle.schema.specs.CatalogData.{CatalogData}
use Rattle.schema.specs.Picks.{Picks}
use Rattle.schema.specs.Says.{IsCatalog, IsNoIndex, SaysAnyIndex}
use Rattle.integrity.specs.declared.index_trees.IndexCounts.{IndexCounts}
use Rattle.integrity_trees.proofs.lemmas.index_walk.CheckedLemmas.{unbroken_index}
use Rattle.integrity_indexes.proofs.lemmas.index_rows.CompareLemmas.{not_different}
use Rattle.integrity_trees.proofs.lemmas.entry_prefixes.EntryLemmas.{still_repeated}
use Rattle.integrity_trees.specs.entry_prefixes.Repeats.{IsUniqueIndex}
use Rattle.integrity.specs.Checked.{HasBrokenIndex, HasCause, IsCheckFault}
use Rattle.integrity.specs.Denotes.{HasCatalog}
use Rattle.integrity.specs.Indexes.{AreBrokenEntries, AreItsEntries, IsBrokenIndexTree, IsCheckedAlone, IsCheckedIndexOf, IsIndexCheckFault, IsTableIndex, columns_of, places_of}
use Rattle.integrity.proofs.OneLemmas.{same_catalog}

-- the faults of the check of an index alone are those of a check
pub index_only : (fault : Fault) → IsIndexCheckFault fault → IsCheckFault fault
index_only ReadFailed h = tt
index_only NoMemory h = tt
index_only (BadPage n) h = tt
index_only (BadChain n) h = tt
index_only (PageUse n) h = tt
index_only (BadOrder n) h = tt
index_only (BadDepth n) h = tt
index_only (BadRecord n) h = tt
index_only FloatValue h = tt
index_only BadText h = tt
index_only (NotUnique name) h = tt
index_only fault h = absurd h

abbrev IsWithin : ℕ → IndexData → Type 0
IsWithin count index = (2 ≤ index.root) × (index.root ≤ count)

root_within : (count : ℕ) (rows : List Row) (tables : List TableData) (row : Row) (index : IndexData) → SaysAnyIndex count rows tables row index
    → IsWithin count index
root_within count rows tables row index (inl says) = (says.least, says.most)
root_within count rows tables row index (inr says) = (says.least, says.most)

-- the trees of a catalog's indexes begin at pages of the image
roots_within : (count : ℕ) (all : List Row) (tables : List TableData) (rows : List Row) (indexes : List IndexData)
    → Picks (SaysAnyIndex count all tables) IsNoIndex rows indexes → All (IsWithin count) indexes
roots_within count all tables rows indexes Picks.end = All-nil (IsWithin count)
roots_within count all tables (row ∷ rows) (index ∷ indexes) (Picks.here says others) =
    All-cons (IsWithin count) index indexes (root_within count all tables row index says) (roots_within count all tables rows indexes others)
roots_within count all tables (row ∷ rows) indexes (Picks.other is others) = roots_within count all tables rows indexes others

pub index_roots : (state : PagerState) (count : ℕ) (rows : List Row) (catalog : CatalogData) → count ≡ state.header.pages
    → IsCatalog count rows catalog → All (λ index. IsPageNumber state index.root) catalog.indexes
index_roots state count rows catalog same says = numbers catalog.indexes (roots_within count rows catalog.tables rows catalog.indexes says.indexes_are)
  where
    numbers : (indexes : List IndexData) → All (IsWithin count) indexes
        → All (λ index. IsPageNumber state index.root) indexes
    numbers [] all = All-nil (λ index. IsPageNumber state index.root)
    numbers (index ∷ indexes) all =
        let here = All-head (IsWithin count) index indexes all in
        let least = here.0 in
        let most = here.1 in
        All-cons (λ index. IsPageNumber state index.root) index indexes (omega (arith, least), omega (arith, most, same))
        (numbers indexes (All-tail (IsWithin count) index indexes all))

module _ (pages : Pages) (rows : List Row) (catalog : CatalogData) (has : HasCatalog pages rows catalog) where
  -- an index's tree has a fault's condition
  pub broken_index_tree : (table : TableData) (index : IndexData) (fault : Fault) → Contains catalog.tables table → Contains catalog.indexes index
      → IsSameName index.table table.name → IsBrokenIndexTree pages table index fault → HasCause pages fault
  broken_index_tree table index fault among_tables among owner broken =
      inr (inr (inr (inr (inl (
        table,
        index,
        record { rows = rows; catalog = catalog; has = has; is_index = among; is_table = among_tables; owner = owner },
        broken,
      )))))

  -- and so its entries
  pub broken_entries : (table : TableData) (index : IndexData) (fault : Fault) → Contains catalog.tables table → Contains catalog.indexes index
      → IsSameName index.table table.name → AreBrokenEntries pages table index fault → HasCause pages fault
  broken_entries table index fault among_tables among owner broken =
      inr (inr (inr (inr (inr (
        table,
        index,
        record { rows = rows; catalog = catalog; has = has; is_index = among; is_table = among_tables; owner = owner },
        broken,
      )))))

  -- the tree of one of the indexes was checked
  checked_in : (indexes : List IndexData) (counted : List IndexCounts) (index : IndexData) → AllZip (IsCheckedIndexOf pages catalog.tables) indexes counted
      → Contains indexes index → (counts : IndexCounts) × IsCheckedIndexOf pages catalog.tables index counts
  checked_in [] trees index checked (k, within, at) = absurd (omega (arith, within))
  checked_in (i ∷ indexes) [] index checked at = absurd checked
  checked_in (i ∷ indexes) (c ∷ trees) index checked (zero, within, at) =
      (c, subst (λ (x : IndexData). IsCheckedIndexOf pages catalog.tables x c) at checked.0)
  checked_in (i ∷ indexes) (c ∷ trees) index checked (suc k, within, at) = checked_in indexes trees index checked.1 (k, omega (arith, within), at)

  unbroken_entries : (table : TableData) (index : IndexData) → AreItsEntries pages table index → (fault : Fault)
      → AreBrokenEntries pages table index fault → ⊥
  unbroken_entries table index its (IndexDiffers name) (named, differs) =
      not_different pages table (columns_of index) index.condition index.root its differs
  unbroken_entries table index its fault broken = absurd broken

  -- nothing is broken of an index that was checked alone
  unbroken_alone : (table : TableData) (index : IndexData) (counts : IndexCounts) → IsCheckedAlone pages table index counts → (fault : Fault)
      → IsBrokenIndexTree pages table index fault → ⊥
  unbroken_alone table index counts checked (NotUnique name) (named, is_unique, repeats) =
      let columns = length (places_of index) in
      let unique : IsUniqueIndex pages index.root columns = checked.unique is_unique in
      unique.unique (still_repeated pages index.root unique.entries repeats.entries unique.entries_are repeats.entries_are columns repeats.repeated)
  unbroken_alone table index counts checked fault broken = unbroken_index pages _ _ index.root counts.tree checked.tree fault broken

  -- the catalog's indexes are the image's
  table_index : (table : TableData) (index : IndexData) → IsTableIndex pages table index
      → Contains catalog.tables table × Contains catalog.indexes index
  table_index table index is =
      let same = same_catalog pages is.rows rows is.catalog catalog is.has has in (
        subst (λ (c : CatalogData). Contains c.tables table) same is.is_table,
        subst (λ (c : CatalogData). Contains c.indexes index) same is.is_index,
      )

  -- entries that were held against the rows of each table
  pub its_entries : ((table : TableData) (index : IndexData) → Contains catalog.tables table → Contains catalog.indexes index
      → IsSameName index.table table.name → AreItsEntries pages table index) → (table : TableData) (index : IndexData)
      → IsTableIndex pages table index → AreItsEntries pages table index
  its_entries each table index is = let among = table_index table index is in each table index among.0 among.1 is.owner

  -- nothing is broken of indexes whose trees and entries were checked
  pub unbroken_indexes : (counted : List IndexCounts) → AllZip (IsCheckedIndexOf pages catalog.tables) catalog.indexes counted
      → ((table : TableData) (index : IndexData) → IsTableIndex pages table index → AreItsEntries pages table index)
      → (fault : Fault) → HasBrokenIndex pages fault → ⊥
  unbroken_indexes trees checked its fault (inl (table, index, is, broken)) =
      let among = table_index table index is in
      let found = checked_in catalog.indexes trees index checked among.1 in
      let same = found.1.owned.alone table among.0 is.owner in
      unbroken_alone found.1.owned.table index found.0 found.1.checked fault (subst (λ (t : TableData). IsBrokenIndexTree pages t index fault) same broken)
  unbroken_indexes trees checked its fault (inr (table, index, is, broken)) =
      unbroken_entries table index (its table index is) fault broken
