-- The entries of what is searched lead to one list of rows.
use Rattle.std.proofs.Common.{◌≡◌, ◌∙◌, ℕ, ℤ, Bool, Contains, List, [], ◌∷◌, Some, refl, sym, ap, subst}
use Rattle.std.specs.Prelude.{find}
use Rattle.std.specs.List.{AllZip}
use Rattle.values.specs.Datum.{Datum, int}
use Rattle.values.specs.Row.{Row}
use Rattle.btree.specs.declared.image.kind.TreeKind.TheVariants.{Index, Table}
use Rattle.btree.specs.image.Cell.{CellData}
use Rattle.btree.specs.image.Pages.{Pages}
use Rattle.btree.specs.image.Shape.{places_under}
use Rattle.btree.specs.image.Tree.{Place}
use Rattle.btree.proofs.KindLemmas.{one_entry}
use Rattle.btree.proofs.lemmas.image.ListLemmas.{in_head, in_tail}
use Rattle.btree.proofs.lemmas.image.PlaceLemmas.{sound}
use Rattle.btree_cursor.specs.cursor.Found.{agrees}
use Rattle.btree_cursor.specs.index_entries.Entries.{HasRecord}
use Rattle.schema_tables.specs.TableData.{RowKeyData, TableData}
use Rattle.records_tables.specs.Tables.{IsRowBy, StoresAnyRow, kind_of}
use Rattle.records_tables.proofs.TableLemmas.{one_row_by}
use Rattle.records_searches.specs.Entries.{EntryData, HasRecordAt, HoldsEntries, HoldsIndexEntries, HoldsTableEntries, IsIndexEntry, IsKeyEntry, IsRowEntry, IsRowOfKey, IsRowOfRowid, LeadsTo, SearchedData, of_index, of_table, values_at}
use Rattle.records_searches.specs.declared.finders.RowFinder.{RowFinder}
use Rattle.records_searches.specs.declared.finders.RowFinder.TheVariants as by
use Rattle.records_searches.specs.declared.finders.RowIndex.{RowIndex}
use Rattle.integrity_trees.proofs.lemmas.primary_walk.RowLemmas.{one_values}
use Rattle.integrity.specs.Searched.{entry_rows}
use Rattle.integrity.proofs.LevelLemmas.{one_levels}
use Rattle.integrity.proofs.SearchedTableLemmas.{record_at}

-- entries at the same places, of which each place has one row, lead to the same rows
same_rows : (R : Place → EntryData → Type 0) → ((place : Place) (one other : EntryData) → R place one → R place other → one.row ≡ other.row)
    → (places : List Place) (one other : List EntryData) → AllZip R places one → AllZip R places other → entry_rows one ≡ entry_rows other
same_rows R each [] [] [] p q = refl
same_rows R each [] [] (f ∷ other) p q = absurd q
same_rows R each [] (e ∷ one) other p q = absurd p
same_rows R each (place ∷ places) [] other p q = absurd p
same_rows R each (place ∷ places) (e ∷ one) [] p q = absurd q
same_rows R each (place ∷ places) (e ∷ one) (f ∷ other) p q =
    let first = each place e f p.0 q.0 in
    let rest = same_rows R each places one other p.1 q.1 in
    λ k. first k ∷ rest k

module _ (pages : Pages) (table : TableData) where
  -- a place is one row of its table at most
  one_stored : (place : Place) (a b : Row) → StoresAnyRow pages table place a → StoresAnyRow pages table place b → a ≡ b
  one_stored place a b one other =
      let same = one_entry pages (kind_of table.key) place one.cell other.cell one.at other.at in
      one_row_by table.key pages table other.cell a b (subst (λ (c : CellData). IsRowBy table.key pages table c a) same one.is) other.is

  -- ---- of a table

  one_row_entry : (place : Place) (one other : EntryData) → IsRowEntry pages table place one → IsRowEntry pages table place other → one.row ≡ other.row
  one_row_entry place one other p q = one_stored place one.row other.row p.stores q.stores

  one_key_entry : (place : Place) (one other : EntryData) → IsKeyEntry pages table place one → IsKeyEntry pages table place other → one.row ≡ other.row
  one_key_entry place one other p q = one_stored place one.row other.row p.stores q.stores

  one_table_rows : (key : RowKeyData) (levels others : ℕ) (one other : List EntryData) → HoldsTableEntries key pages table levels one
      → HoldsTableEntries key pages table others other → entry_rows one ≡ entry_rows other
  one_table_rows (RowKeyData.Rowid at) levels others one other p q =
      let same = one_levels pages Table others levels table.root q.searchable.tree.shape p.searchable.tree.shape in
      same_rows (IsRowEntry pages table) one_row_entry (places_under pages Table levels table.root) one other p.each
      (subst (λ (n : ℕ). AllZip (IsRowEntry pages table) (places_under pages Table n table.root) other) same q.each)
  one_table_rows (RowKeyData.Primary ats) levels others one other p q =
      let same = one_levels pages Index others levels table.root q.searchable.tree.shape p.searchable.tree.shape in
      same_rows (IsKeyEntry pages table) one_key_entry (places_under pages Index levels table.root) one other p.each
      (subst (λ (n : ℕ). AllZip (IsKeyEntry pages table) (places_under pages Index n table.root) other) same q.each)

  -- ---- of an index

  number_same : (a b : ℤ) → Some (int a) ≡ Some (int b) → a ≡ b
  number_same a b e = cc

  -- a rowid leads to one row
  one_of_rowid : (rowid : ℤ) (a b : Row) → IsRowOfRowid pages table rowid a → IsRowOfRowid pages table rowid b → a ≡ b
  one_of_rowid rowid a b p q =
      let same = one_levels pages Table p.levels q.levels table.root p.searchable.tree.shape q.searchable.tree.shape in
      let place = p.there.place in
      one_stored place a b
      (p.only place (record { is_there = p.there.is_there; has = p.there.has }))
      (q.only place
      (record { is_there = subst (λ (n : ℕ). Contains (places_under pages Table n table.root) place) same p.there.is_there; has = p.there.has }))

  find_same : {X : Type 0} (f g : X → Bool) (xs : List X) → ((x : X) → Contains xs x → f x ≡ g x) → find f xs ≡ find g xs
  find_same f g [] each = refl
  find_same f g (x ∷ xs) each =
      let first : f x ≡ g x = each x (in_head x xs) in
      let rest : find f xs ≡ find g xs = find_same f g xs (λ y h. each y (in_tail x y xs h)) in
      rw (first, rest) refl

  place_same : (a b : Place) → Some a ≡ Some b → a ≡ b
  place_same a b e = cc

  -- the record at a place has one list of values
  one_record : (place : Place) (a b : List Datum) → HasRecordAt pages place a → HasRecordAt pages place b → a ≡ b
  one_record place a b p q =
      let same = one_entry pages Index place p.cell q.cell p.at q.at in
      one_values pages q.cell a b (subst (λ (c : CellData). HasRecord pages c a) same p.has) q.has

  -- so does a key
  one_of_key : (key : List Datum) (a b : Row) → IsRowOfKey pages table key a → IsRowOfKey pages table key b → a ≡ b
  one_of_key key a b p q =
      let same = one_levels pages Index q.levels p.levels table.root q.searchable.tree.shape p.searchable.tree.shape in
      let places = places_under pages Index p.levels table.root in
      let each = find_same (λ at. agrees [] key (p.values at)) (λ at. agrees [] key (q.values at)) places
      (λ at h.
      let is = sound pages Index p.levels table.root p.searchable.tree.shape at h in
      ap (agrees [] key)
      (one_record at (p.values at) (q.values at) (record_at pages p.values table.root p.searchable.entries at is)
      (record_at pages q.values table.root q.searchable.entries at is))) in
      let there : find (λ at. agrees [] key (q.values at)) places ≡ Some q.place =
      subst (λ (n : ℕ). find (λ at. agrees [] key (q.values at)) (places_under pages Index n table.root) ≡ Some q.place) same q.first in
      let place = place_same p.place q.place (sym p.first ∙ each ∙ there) in
      one_stored q.place a b (subst (λ (at : Place). StoresAnyRow pages table at a) place p.stores) q.stores

  one_led : (finder : RowFinder) (values : List Datum) (a b : Row) → LeadsTo pages table finder values a → LeadsTo pages table finder values b → a ≡ b
  one_led (by.Rowid at) values a b p q =
      let same = number_same p.0 q.0 (sym p.1 ∙ q.1) in
      one_of_rowid q.0 a b (subst (λ (r : ℤ). IsRowOfRowid pages table r a) same p.2) q.2
  one_led (by.Key places) values a b p q = one_of_key (values_at values places.items) a b p.1 q.1

  module _ (index : RowIndex) where
    one_index_entry : (place : Place) (one other : EntryData) → IsIndexEntry pages table index place one → IsIndexEntry pages table index place other
        → one.row ≡ other.row
    one_index_entry place one other p q =
        let same = one_record place one.values other.values p.has q.has in
        one_led index.finder other.values one.row other.row (subst (λ (v : List Datum). LeadsTo pages table index.finder v one.row) same p.leads) q.leads

    one_index_rows : (levels others : ℕ) (one other : List EntryData) → HoldsIndexEntries pages table index levels one
        → HoldsIndexEntries pages table index others other → entry_rows one ≡ entry_rows other
    one_index_rows levels others one other p q =
        let same = one_levels pages Index others levels index.root q.searchable.tree.shape p.searchable.tree.shape in
        same_rows (IsIndexEntry pages table index) one_index_entry (places_under pages Index levels index.root) one other p.each
        (subst (λ (n : ℕ). AllZip (IsIndexEntry pages table index) (places_under pages Index n index.root) other) same q.each)

-- what is searched has one list of rows
pub one_entry_rows : (searched : SearchedData) (pages : Pages) (levels others : ℕ) (one other : List EntryData) → HoldsEntries searched pages levels one
    → HoldsEntries searched pages others other → entry_rows one ≡ entry_rows other
one_entry_rows (of_table table) pages levels others one other p q = one_table_rows pages table table.key levels others one other p q
one_entry_rows (of_index table index) pages levels others one other p q = one_index_rows pages table index levels others one other p q
