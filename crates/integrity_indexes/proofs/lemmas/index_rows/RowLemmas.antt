-- The rows of a table that was checked, each with its rowid where it has one, and the entries that they want.
use Rattle.std.proofs.Common.{◌≡◌, ◌<◌, ◌≤◌, ◌<ℤ◌, ◌++◌, ℕ, ℤ, All, Bool, true, false, Contains, IsPermutation, List, [], ◌∷◌, Option, Some, length, map, slice_get, slice_index_or, refl, sym, ◌∙◌, ap, subst, ⊎_elim, arith}
use Rattle.std.specs.List.{AllZip, filter}
use Rattle.std.specs.Ordering.{is_lt}
use Rattle.std.specs.declared.cmp.Ordering.{Ordering}
use Rattle.std.specs.declared.cmp.Ordering.TheVariants.{Less, Equal, Greater}
use Rattle.std.proofs.lemmas.Bool.{cases_lt}
use Rattle.std.proofs.lemmas.Int.{ints}
use Rattle.std.proofs.lemmas.List.{length-map, map-append}
use Rattle.std.proofs.lemmas.List.Elements.{All-head, All-tail}
use Rattle.std.proofs.lemmas.List.Sorted.{IsPermutation-map, IsPermutation-refl}
use Rattle.values.specs.Datum.{Datum, int, null}
use Rattle.values.specs.Row.{Row}
use Rattle.btree.specs.declared.image.kind.TreeKind.TheVariants.{Index, Table}
use Rattle.btree.specs.image.Cell.{CellData}
use Rattle.btree.specs.image.Pages.{IsNumber, Pages}
use Rattle.btree.specs.image.Shape.{IsTreeAt, places_under}
use Rattle.btree.specs.image.Tree.{IsEntryAt, Place}
use Rattle.btree.proofs.lemmas.image.CellLemmas.{one_cell}
use Rattle.btree.proofs.lemmas.image.ListLemmas.{in_none}
use Rattle.btree.proofs.lemmas.image.TableLemmas.{rows_of}
use Rattle.btree_cursor.specs.index_entries.Entries.{HasRecord}
use Rattle.btree_cursor.specs.key_ranges.Ranges.{key_cmp}
use Rattle.btree_cursor.proofs.lemmas.key_ranges.RunLemmas.{key_never}
use Rattle.integrity_trees.specs.wanted_entries.Bags.{IsOnce}
use Rattle.integrity_trees.specs.wanted_entries.Wanted.{IndexedPlaces, KeyedRow, entry_of, row_key, values_at, wanted}
use Rattle.integrity_trees.proofs.lemmas.wanted_entries.KeptLemmas.{once_kept}
use Rattle.expr.proofs.BagLemmas.{IsPermutation-filter}
use Rattle.integrity_trees.specs.declared.tree_walk.counts.TreeCounts.{TreeCounts}
use Rattle.btree.proofs.KindLemmas.{one_entry}
use Rattle.btree_cursor.proofs.lemmas.index_entries.EntryLemmas.{entry_at_place}
use Rattle.schema_tables.specs.TableData.{IsKeyWithin, RowKeyData, TableData}
use Rattle.schema_tables.proofs.ZipLemmas.{zip_same}
use Rattle.records_tables.specs.stored_rows.Stored.{HoldsRow, IsRowOf}
use Rattle.records_tables.proofs.lemmas.stored_rows.FilledLemmas.{fills_same}
use Rattle.records_tables.proofs.lemmas.stored_rows.OneLemmas.{one_places, one_row}
use Rattle.integrity_trees.specs.table_walk.Checked.{IsCheckedTree}
use Rattle.records_tables.specs.primary_rows.Firsts.{firsts}
use Rattle.records_tables.specs.primary_rows.Order.{key_order, primary_of}
use Rattle.records_tables.specs.primary_rows.Rows.{IsPrimaryRow}
use Rattle.records_tables.proofs.lemmas.primary_rows.FirstLemmas.{only_firsts}
use Rattle.records_tables.specs.primary_rows.Held.{StoresPrimaryRow, key_of_row}
use Rattle.integrity_trees.specs.primary_walk.Checked.{IsCheckedPrimary}
use Rattle.integrity_trees.proofs.lemmas.primary_walk.HeldLemmas.{rows_held, rows_stand}
use Rattle.integrity_trees.proofs.lemmas.primary_walk.RowLemmas.{one_values}
use Rattle.integrity_indexes.specs.index_rows.Checked.{IsCheckedBy}
use Rattle.integrity_indexes.specs.index_rows.Entries.{TellsRow}
use Rattle.records_tables.specs.Tables.{kind_of}
use Rattle.integrity_indexes.specs.index_rows.Rows.{HoldsKeyedRows, HoldsRowlessRows, HoldsTableRows, IsKeyedRow, StoresKeyedRow, rowless}
use Rattle.integrity_indexes.proofs.lemmas.index_rows.ListLemmas.{agree_on, ascend_at, map_agreeing, number_in}
use Rattle.integrity_trees.proofs.lemmas.entry_prefixes.ListLemmas.{beside, get_of, mapped_at, same_values}

-- ---- rows with rowids

-- the last value of an entry is the rowid
last_same : (xs ys : Row) (p q : ℤ) → length xs ≡ length ys → xs ++ int p ∷ [] ≡ ys ++ int q ∷ [] → p ≡ q
last_same [] [] p q long e = let f : int p ∷ [] ≡ int q ∷ [] = e in cc
last_same [] (y ∷ ys) p q long e = absurd (omega (arith, long))
last_same (x ∷ xs) [] p q long e = absurd (omega (arith, long))
last_same (x ∷ xs) (y ∷ ys) p q long e =
    let f : x ∷ (xs ++ int p ∷ []) ≡ y ∷ (ys ++ int q ∷ []) = e in
    last_same xs ys p q (omega (arith, long)) cc

same_rowid : (index : IndexedPlaces) (a b : KeyedRow) (p q : ℤ) → a.rowid ≡ Some p → b.rowid ≡ Some q
    → entry_of index a ≡ entry_of index b → p ≡ q
same_rowid index a b p q is_p is_q e =
    last_same (values_at a.row index.columns) (values_at b.row index.columns) p q
    (length-map index.columns _ ∙ sym (length-map index.columns _))
    (ap (λ (o : _). values_at a.row index.columns ++ row_key index.others o a.row) (sym is_p) ∙ e
    ∙ ap (λ (o : _). values_at b.row index.columns ++ row_key index.others o b.row) is_q)

never_before : (p q : ℤ) → p ≡ q → p <ℤ q → ⊥
never_before p q e less = let f : q <ℤ q = subst (λ (z : ℤ). z <ℤ q) e less in omega (arith, ints)

-- elements none of which stands before itself stand once
once_from : {X : Type 0} (xs : List X) → ((i j : ℕ) (x : X) → i < j → slice_get xs i ≡ Some x → slice_get xs j ≡ Some x → ⊥) → IsOnce xs
once_from xs never i j x at_i at_j = ⊎_elim
    (λ (less : i < j). absurd (never i j x less at_i at_j))
    (λ (least : j ≤ i). ⊎_elim
    (λ (less : j < i). absurd (never j i x less at_j at_i))
    (λ (most : i ≤ j). omega arith)
    (cases_lt j i))
    (cases_lt i j)

module _ (pages : Pages) (table : TableData) where
  -- rows of one place are one
  one_keyed : (place : Place) (a b : KeyedRow) → StoresKeyedRow pages table place a → StoresKeyedRow pages table place b → a ≡ b
  one_keyed place a b one other =
      let same = one_cell pages place one.cell other.cell one.at other.at in
      let rowid : a.rowid ≡ b.rowid = one.rowid_is ∙ ap (λ (c : CellData). c.rowid) same ∙ sym other.rowid_is in
      let row : a.row ≡ b.row = one_row pages table other.cell a.row b.row (subst (λ (c : CellData). IsRowOf pages table c a.row) same one.is) other.is in
      λ k. record { rowid = rowid k; row = row k }

  one_keyed_rows : (a b : List KeyedRow) → HoldsKeyedRows pages table a → HoldsKeyedRows pages table b → a ≡ b
  one_keyed_rows a b one other =
      let places = one_places pages table.root one.places other.places one.cells other.cells in
      zip_same (StoresKeyedRow pages table) one_keyed other.places a b
      (subst (λ (l : List Place). AllZip (StoresKeyedRow pages table) l a) places one.rows_are) other.rows_are

  -- the entries that rows want differ
  module _ (index : IndexedPlaces) (rows : List KeyedRow) (holds : HoldsKeyedRows pages table rows) where
    not_before : (i j : ℕ) (entry : Row) → i < j → slice_get (map (entry_of index) rows) i ≡ Some entry
        → slice_get (map (entry_of index) rows) j ≡ Some entry → ⊥
    not_before i j entry less at_i at_j =
        let x = mapped_at (entry_of index) rows i entry at_i in
        let y = mapped_at (entry_of index) rows j entry at_j in
        let p = beside (StoresKeyedRow pages table) holds.places rows i x.x holds.rows_are x.at in
        let q = beside (StoresKeyedRow pages table) holds.places rows j y.x holds.rows_are y.at in
        let a = p.holds.at.is in
        let b = q.holds.at.is in
        never_before a.rowid b.rowid
        (same_rowid index x.x y.x a.rowid b.rowid (p.holds.rowid_is ∙ a.has_rowid) (q.holds.rowid_is ∙ b.has_rowid) (x.is ∙ sym y.is))
        (holds.cells.ascend i j p.x q.x a.rowid b.rowid less p.at q.at (p.holds.cell, a, a.has_rowid) (q.holds.cell, b, b.has_rowid))

    once_entries : IsOnce (map (entry_of index) rows)
    once_entries = once_from (map (entry_of index) rows) not_before

  -- the rows at places at which rows are
  record AreKeyed (places : List Place) : Type 0 where
    rows : List KeyedRow
    stored : AllZip (StoresKeyedRow pages table) places rows

  keyed_at : (places : List Place) → All (HoldsRow pages table) places → AreKeyed places
  keyed_at [] held = record { rows = []; stored = tt }
  keyed_at (place ∷ places) held =
      let first = All-head (HoldsRow pages table) place places held in
      let others = keyed_at places (All-tail (HoldsRow pages table) place places held) in
      record {
        rows = record { rowid = first.stores.cell.rowid; row = first.row } ∷ others.rows;
        stored = (record { cell = first.stores.cell; at = first.stores.at; is = first.stores.is; rowid_is = refl }, others.stored);
      }

-- ---- rows without rowids

-- what an entry has tells each column of the key
key_told : (key : RowKeyData) (index : IndexedPlaces) → TellsRow key index → (c : ℕ) → Contains (firsts [] (primary_of key)) c
    → Contains (index.columns ++ index.others) c
key_told (RowKeyData.Rowid place) index tells c h = absurd (in_none c h)
key_told (RowKeyData.Primary places) index tells c h =
    tells c (number_in places c (only_firsts [] places h.0 c (get_of (firsts [] places) c h)))

less_of : (o : Ordering) → is_lt o ≡ true → o ≡ Less
less_of Less e = refl
less_of Equal e = let f : false ≡ true = e in cc
less_of Greater e = let f : false ≡ true = e in cc

module _ (pages : Pages) (table : TableData) where
  -- rows of one place are one
  one_primary : (place : Place) (a b : Row) → StoresPrimaryRow pages table place a → StoresPrimaryRow pages table place b → a ≡ b
  one_primary place a b one other =
      let same = one_entry pages Index place one.has.cell other.has.cell
      (entry_at_place pages one.level place.page place.index one.has.cell one.page one.has.is)
      (entry_at_place pages other.level place.page place.index other.has.cell other.page other.has.is) in
      let values = one_values pages other.has.cell one.values other.values (subst (λ (c : CellData). HasRecord pages c one.values) same one.has.has) other.has.has in
      let makes = subst (λ (v : List Datum). IsPrimaryRow table v a) values one.makes in
      fills_same a b (makes.told ∙ sym other.makes.told)

  one_rowless : (a b : List KeyedRow) → HoldsRowlessRows pages table a → HoldsRowlessRows pages table b → IsPermutation a b
  one_rowless a b one other =
      let x = one.holds in
      let y = other.holds in
      let bag = same_values (StoresPrimaryRow pages table) one_primary x.places y.places one.values other.values x.rows_are y.rows_are x.cells.once y.cells.once
      (λ place h. y.cells.complete place (x.cells.sound place h)) (λ place h. x.cells.complete place (y.cells.sound place h)) in
      subst (λ (l : List KeyedRow). IsPermutation l b) (sym one.rows_are)
      (subst (λ (l : List KeyedRow). IsPermutation (map rowless one.values) l) (sym other.rows_are) (IsPermutation-map rowless one.values other.values bag))

  module _ (index : IndexedPlaces) (tells : TellsRow table.key index) where
    -- rows that want one entry have one key
    same_key : (a b : Row) → entry_of index (rowless a) ≡ entry_of index (rowless b) → key_of_row table a ≡ key_of_row table b
    same_key a b e =
        let f : ℕ → Datum = λ at. slice_index_or a at null in
        let g : ℕ → Datum = λ at. slice_index_or b at null in
        let all : map f (index.columns ++ index.others) ≡ map g (index.columns ++ index.others) =
        map-append f index.columns index.others ∙ e ∙ sym (map-append g index.columns index.others) in
        map_agreeing f g (key_order table)
        (λ c h. agree_on f g (index.columns ++ index.others) all c (key_told table.key index tells c h))

    module _ (rows : List KeyedRow) (holds : HoldsRowlessRows pages table rows) where
      abbrev its : List Row
      its = holds.values

      never_same : (i j : ℕ) (entry : Row) → i < j → slice_get (map (entry_of index) (map rowless its)) i ≡ Some entry
          → slice_get (map (entry_of index) (map rowless its)) j ≡ Some entry → ⊥
      never_same i j entry less at_i at_j =
          let x = mapped_at (entry_of index) (map rowless its) i entry at_i in
          let y = mapped_at (entry_of index) (map rowless its) j entry at_j in
          let p = mapped_at rowless its i x.x x.at in
          let q = mapped_at rowless its j y.x y.at in
          let one : entry_of index (rowless p.x) ≡ entry_of index (rowless q.x) =
          ap (entry_of index) p.is ∙ x.is ∙ sym y.is ∙ sym (ap (entry_of index) q.is) in
          let key : key_of_row table p.x ≡ key_of_row table q.x = same_key p.x q.x one in
          let before = less_of (key_cmp [] (key_of_row table p.x) (key_of_row table q.x))
          (ascend_at [] (key_of_row table) its i j p.x q.x holds.holds.ascend less p.at q.at) in
          key_never [] (key_of_row table q.x) (subst (λ (k : List Datum). key_cmp [] k (key_of_row table q.x) ≡ Less) key before)

      once_rowless : IsOnce (map (entry_of index) rows)
      once_rowless = subst (λ (l : List KeyedRow). IsOnce (map (entry_of index) l)) (sym holds.rows_are)
          (once_from (map (entry_of index) (map rowless its)) never_same)

-- ---- rows of either kind

-- the rows that a table holds are one bag
pub one_bag : (key : RowKeyData) (pages : Pages) (table : TableData) (a b : List KeyedRow) → HoldsTableRows key pages table a
    → HoldsTableRows key pages table b → IsPermutation a b
one_bag (RowKeyData.Rowid place) pages table a b one other =
    subst (λ (l : List KeyedRow). IsPermutation a l) (one_keyed_rows pages table a b one other) (IsPermutation-refl a)
one_bag (RowKeyData.Primary places) pages table a b one other = one_rowless pages table a b one other

-- so are the entries that they want
pub one_wanted : (key : RowKeyData) (pages : Pages) (table : TableData) (index : IndexedPlaces) (keeps : Row → Bool) (a b : List KeyedRow)
    → HoldsTableRows key pages table a → HoldsTableRows key pages table b → IsPermutation (wanted index keeps a) (wanted index keeps b)
one_wanted key pages table index keeps a b one other =
    IsPermutation-map (entry_of index) (filter (λ keyed. keeps keyed.row) a) (filter (λ keyed. keeps keyed.row) b)
    (IsPermutation-filter (λ keyed. keeps keyed.row) a b (one_bag key pages table a b one other))

once_of : (key : RowKeyData) (pages : Pages) (table : TableData) (index : IndexedPlaces) → TellsRow table.key index → (rows : List KeyedRow)
    → HoldsTableRows key pages table rows → IsOnce (map (entry_of index) rows)
once_of (RowKeyData.Rowid place) pages table index tells rows holds = once_entries pages table index rows holds
once_of (RowKeyData.Primary places) pages table index tells rows holds = once_rowless pages table index tells rows holds

-- they differ, also where a condition leaves rows out
pub once_wanted : (key : RowKeyData) (pages : Pages) (table : TableData) (index : IndexedPlaces) → TellsRow table.key index → (rows : List KeyedRow)
    → HoldsTableRows key pages table rows → (keeps : Row → Bool) → IsOnce (wanted index keeps rows)
once_wanted key pages table index tells rows holds keeps =
    once_kept (entry_of index) (λ keyed. keeps keyed.row) rows (once_of key pages table index tells rows holds)

-- the cell at a place of a table's tree is this row
pub record StoresBy (key : RowKeyData) (pages : Pages) (table : TableData) (place : Place) (keyed : KeyedRow) : Type 0 where
  pub cell : CellData
  pub at : IsEntryAt pages (kind_of key) place cell
  pub is : IsKeyedRow key pages table cell keyed

-- the rows of a table, and the places of its tree at which they stand
pub record TableRows (key : RowKeyData) (pages : Pages) (table : TableData) (levels : ℕ) : Type 0 where
  pub rows : List KeyedRow
  pub holds : HoldsTableRows key pages table rows
  pub stored : AllZip (StoresBy key pages table) (places_under pages (kind_of key) levels table.root) rows

stored_by_rowid : (at : Option ℕ) (pages : Pages) (table : TableData) (places : List Place) (rows : List KeyedRow)
    → AllZip (StoresKeyedRow pages table) places rows → AllZip (StoresBy (RowKeyData.Rowid at) pages table) places rows
stored_by_rowid at pages table [] [] all = tt
stored_by_rowid at pages table [] (row ∷ rows) all = absurd all
stored_by_rowid at pages table (place ∷ places) [] all = absurd all
stored_by_rowid at pages table (place ∷ places) (row ∷ rows) all =
    (record { cell = all.0.cell; at = all.0.at; is = (all.0.is, all.0.rowid_is) }, stored_by_rowid at pages table places rows all.1)

stored_rowless : (ats : List ℕ) (pages : Pages) (table : TableData) (places : List Place) (rows : List Row)
    → AllZip (StoresPrimaryRow pages table) places rows → AllZip (StoresBy (RowKeyData.Primary ats) pages table) places (map rowless rows)
stored_rowless ats pages table [] [] all = tt
stored_rowless ats pages table [] (row ∷ rows) all = absurd all
stored_rowless ats pages table (place ∷ places) [] all = absurd all
stored_rowless ats pages table (place ∷ places) (row ∷ rows) all =
    let first = all.0 in (
      record {
        cell = first.has.cell;
        at = entry_at_place pages first.level place.page place.index first.has.cell first.page first.has.is;
        is = (record { values = first.values; has = first.has.has; makes = first.makes }, refl);
      },
      stored_rowless ats pages table places rows all.1,
    )

rowid_rows : (at : Option ℕ) (pages : Pages) (table : TableData) (counts : TreeCounts) → IsCheckedTree pages table counts
    → TableRows (RowKeyData.Rowid at) pages table counts.levels
rowid_rows at pages table counts checked =
    let chosen = keyed_at pages table (places_under pages Table counts.levels table.root) checked.rows in
    record {
      rows = chosen.rows;
      holds = record {
        places = places_under pages Table counts.levels table.root;
        cells = rows_of pages table.root counts.levels checked.shape checked.sound.order;
        rows_are = chosen.stored;
      };
      stored = stored_by_rowid at pages table (places_under pages Table counts.levels table.root) chosen.rows chosen.stored;
    }

rowless_rows : (ats : List ℕ) (pages : Pages) (table : TableData) (counts : TreeCounts) → IsKeyWithin table.key (length table.columns)
    → IsCheckedPrimary pages table counts → TableRows (RowKeyData.Primary ats) pages table counts.levels
rowless_rows ats pages table counts within checked =
    let held = rows_held pages table within counts checked in
    record {
      rows = map rowless held.0;
      holds = record { values = held.0; holds = held.1; rows_are = refl };
      stored = stored_rowless ats pages table (places_under pages Index counts.levels table.root) held.0 (rows_stand pages table within counts checked);
    }

pub table_rows : (key : RowKeyData) (pages : Pages) (table : TableData) (counts : TreeCounts) → IsKeyWithin table.key (length table.columns)
    → IsCheckedBy key pages table counts → TableRows key pages table counts.levels
table_rows (RowKeyData.Rowid place) pages table counts within checked = rowid_rows place pages table counts checked
table_rows (RowKeyData.Primary places) pages table counts within checked = rowless_rows places pages table counts within checked

pub tree_at : (key : RowKeyData) (pages : Pages) (table : TableData) (counts : TreeCounts) → IsNumber pages table.root
    → IsCheckedBy key pages table counts → IsTreeAt pages (kind_of key) counts.levels table.root
tree_at (RowKeyData.Rowid place) pages table counts number checked = record { few = checked.few; number = number; shape = checked.shape }
tree_at (RowKeyData.Primary places) pages table counts number checked = record { few = checked.tree.few; number = number; shape = checked.tree.shape }
