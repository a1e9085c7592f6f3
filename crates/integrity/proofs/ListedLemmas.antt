-- The rows that an index lists are its table's.
use Rattle.std.proofs.Common.{◌≡◌, ◌∙◌, ℕ, Bool, true, false, IsPermutation, List, [], ◌∷◌, Option, map, refl, ap, subst, sym}
use Rattle.std.specs.List.{AllZip, filter}
use Rattle.std.proofs.lemmas.List.Sorted.{IsPermutation-map, IsPermutation-refl, IsPermutation-sym, IsPermutation-trans}
use Rattle.values.specs.Row.{Row}
use Rattle.btree.specs.image.Pages.{Pages}
use Rattle.btree.specs.image.Tree.{Place}
use Rattle.expr.specs.Term.{Term}
use Rattle.expr.proofs.BagLemmas.{IsPermutation-filter}
use Rattle.integrity_trees.specs.wanted_entries.Wanted.{IndexedPlaces, KeyedRow}
use Rattle.integrity_trees.proofs.lemmas.wanted_entries.KeptLemmas.{kept_first, left_first}
use Rattle.records_tables.specs.stored_rows.Stored.{StoresRow}
use Rattle.records_tables.proofs.lemmas.stored_rows.OneLemmas.{one_rows}
use Rattle.schema_tables.specs.TableData.{RowKeyData, TableData}
use Rattle.integrity_indexes.specs.index_rows.Indexed.{HoldsIndexedRows}
use Rattle.integrity_indexes.specs.index_rows.Kept.{keeps_row}
use Rattle.integrity_indexes.specs.index_rows.Rows.{HoldsTableRows, StoresKeyedRow, rowless}
use Rattle.integrity_indexes.proofs.lemmas.index_rows.RowLemmas.{one_bag}
use Rattle.integrity.specs.Tables.{HoldsRowsBy}

abbrev row_of : KeyedRow → Row
row_of keyed = keyed.row

by_test : {P : Type 0} (b : Bool) → (b ≡ true → P) → (b ≡ false → P) → P
by_test true pass fail = pass refl
by_test false pass fail = fail refl

-- what is kept of rows by themselves is kept of them with their rowids
kept_alone : (keeps : Row → Bool) (xs : List KeyedRow) → map row_of (filter (λ keyed. keeps keyed.row) xs) ≡ filter keeps (map row_of xs)
kept_alone keeps [] = refl
kept_alone keeps (x ∷ xs) = by_test (keeps x.row)
    (λ kept. ap (λ (l : List KeyedRow). map row_of l) (kept_first (λ (keyed : KeyedRow). keeps keyed.row) x xs kept)
    ∙ ap (λ (l : List Row). x.row ∷ l) (kept_alone keeps xs) ∙ sym (kept_first keeps x.row (map row_of xs) kept))
    (λ left. ap (λ (l : List KeyedRow). map row_of l) (left_first (λ (keyed : KeyedRow). keeps keyed.row) x xs left)
    ∙ kept_alone keeps xs ∙ sym (left_first keeps x.row (map row_of xs) left))

rows_alone : (rows : List Row) → map row_of (map rowless rows) ≡ rows
rows_alone [] = refl
rows_alone (row ∷ rows) = ap (λ (l : List Row). row ∷ l) (rows_alone rows)

module _ (pages : Pages) (table : TableData) where
  stored_alone : (places : List Place) (keyed : List KeyedRow) → AllZip (StoresKeyedRow pages table) places keyed
      → AllZip (StoresRow pages table) places (map row_of keyed)
  stored_alone [] [] stored = tt
  stored_alone [] (k ∷ keyed) stored = absurd stored
  stored_alone (place ∷ places) [] stored = absurd stored
  stored_alone (place ∷ places) (k ∷ keyed) stored =
      (record { cell = stored.0.cell; at = stored.0.at; is = stored.0.is }, stored_alone places keyed stored.1)

  -- the rows of a table, with their rowids and by themselves
  same_rows : (key : RowKeyData) (keyed : List KeyedRow) (rows : List Row) → HoldsTableRows key pages table keyed → HoldsRowsBy key pages table rows
      → IsPermutation (map row_of keyed) rows
  same_rows (RowKeyData.Rowid place) keyed rows one other =
      subst (λ (l : List Row). IsPermutation (map row_of keyed) l)
      (one_rows pages table (map row_of keyed) rows
      (record { places = one.places; cells = one.cells; rows_are = stored_alone one.places keyed one.rows_are }) other)
      (IsPermutation-refl (map row_of keyed))
  same_rows (RowKeyData.Primary places) keyed rows one other =
      subst (λ (l : List Row). IsPermutation (map row_of keyed) l) (rows_alone rows)
      (IsPermutation-map row_of keyed (map rowless rows)
      (one_bag (RowKeyData.Primary places) pages table keyed (map rowless rows) one (record { values = rows; holds = other; rows_are = refl })))

  pub listed : (index : IndexedPlaces) (condition : Option Term) (descends : List Bool) (levels root : ℕ) (its : List KeyedRow)
      → HoldsIndexedRows pages table index condition descends levels root its → (rows : List Row) → HoldsRowsBy table.key pages table rows
      → IsPermutation (filter (keeps_row condition) rows) (map row_of its)
  listed index condition descends levels root its is rows holds =
      let keeps : Row → Bool = keeps_row condition in
      let kept : List KeyedRow = filter (λ keyed. keeps_row condition keyed.row) is.stored in
      IsPermutation-trans (filter keeps rows) (map row_of kept) (map row_of its)
      (IsPermutation-sym (map row_of kept) (filter keeps rows)
      (subst (λ (l : List Row). IsPermutation l (filter keeps rows)) (sym (kept_alone keeps is.stored))
      (IsPermutation-filter keeps (map row_of is.stored) rows (same_rows table.key is.stored rows is.stored_are holds))))
      (IsPermutation-map row_of kept its is.same)
