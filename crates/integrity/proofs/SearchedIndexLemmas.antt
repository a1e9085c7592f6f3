-- The entries of an index that was checked lead to the rows of its table.
use Rattle.std.proofs.Common.{◌≡◌, ◌∙◌, ◌+◌, ◌<◌, ◌++◌, ◌||◌, nat_eq, ℕ, ℤ, All, Contains, Bool, true, false, List, [], ◌∷◌, Option, Some, length, map, slice_get, slice_index_or, refl, sym, ap, subst, ⊎_elim, arith}
use Rattle.std.specs.List.{AllZip, filter}
use Rattle.std.proofs.lemmas.List.{length-append, length-map}
use Rattle.std.proofs.lemmas.List.Elements.{All-cons, All-nil}
use Rattle.std.proofs.lemmas.List.Sorted.{Contains-permutation, IsPermutation-sym}
use Rattle.values.specs.Datum.{Datum, int, null}
use Rattle.values.specs.Row.{Row}
use Rattle.btree.specs.declared.image.kind.TreeKind.TheVariants.{Index}
use Rattle.btree.specs.image.Pages.{IsNumber, Pages}
use Rattle.btree.specs.image.Shape.{HasShape, most_levels, places_under}
use Rattle.btree.specs.image.Tree.{IsPlaceOf, Place}
use Rattle.btree.proofs.lemmas.image.ListLemmas.{cons_cases, get_contains, in_head, in_tail, in_none}
use Rattle.btree.proofs.lemmas.image.PlaceLemmas.{complete, sound}
use Rattle.btree_cursor.specs.key_ranges.Runs.{Ascend}
use Rattle.btree_cursor.proofs.lemmas.index_entries.EntryLemmas.{entry_at_place}
use Rattle.expr.specs.Term.{Term}
use Rattle.schema_tables.specs.TableData.{IsKeyWithin, RowKeyData, TableData}
use Rattle.records_tables.specs.primary_rows.Firsts.{firsts, has_number, place_of}
use Rattle.records_tables.specs.primary_rows.Held.{StoresPrimaryRow, key_of_row}
use Rattle.records_tables.specs.primary_rows.Order.{primary_of}
use Rattle.records_tables.specs.stored_rows.Stored.{IsStored}
use Rattle.records_tables.specs.Tables.{IsAnyStored, IsStoredBy, StoresRowBy, kind_of}
use Rattle.records_tables.proofs.lemmas.primary_rows.FirstLemmas.{only_firsts}
use Rattle.records_searches.specs.Entries.{EntryData, HasRecordAt, HoldsIndexEntries, IsIndexEntry, IsRowOfKey, LeadsTo, entry_values, values_at}
use Rattle.records_searches.specs.Finders.{IsFinderBy, key_entry}
use Rattle.records_searches.specs.declared.finders.RowFinder.{RowFinder}
use Rattle.records_searches.specs.declared.finders.RowFinder.TheVariants as by
use Rattle.records_searches.specs.declared.finders.RowIndex.{RowIndex}
use Rattle.records_searches.proofs.StoredLemmas.{row_of_its_rowid}
use Rattle.records_searches.proofs.WorkLemmas.{has_key, has_rowid}
use Rattle.integrity_trees.specs.declared.tree_walk.counts.TreeCounts.{TreeCounts}
use Rattle.integrity_trees.specs.primary_walk.Checked.{IsCheckedPrimary}
use Rattle.integrity_trees.specs.wanted_entries.Wanted.{IndexedPlaces, KeyedRow, entry_of, row_key}
use Rattle.integrity_trees.proofs.lemmas.entry_prefixes.ListLemmas.{beside, get_of, mapped_at}
use Rattle.integrity_trees.proofs.lemmas.wanted_entries.KeptLemmas.{kept_first, left_first}
use Rattle.integrity_indexes.specs.index_rows.Checked.{IsCheckedBy}
use Rattle.integrity_indexes.specs.index_rows.Entries.{TellsRow}
use Rattle.integrity_indexes.specs.index_rows.Indexed.{HoldsIndexedRows}
use Rattle.integrity_indexes.specs.index_rows.Kept.{keeps_row}
use Rattle.integrity_indexes.specs.index_rows.Rows.{HoldsKeyedRows, HoldsRowlessRows, HoldsTableRows, StoresKeyedRow, rowless}
use Rattle.integrity_indexes.proofs.lemmas.index_rows.ListLemmas.{number_in}
use Rattle.integrity.specs.Searched.{entry_rows}
use Rattle.integrity.proofs.KeyRowLemmas.{first_with, held}
use Rattle.integrity.proofs.SearchedTableLemmas.{record_at}

by_test : {P : Type 0} (b : Bool) → (b ≡ true → P) → (b ≡ false → P) → P
by_test true pass fail = pass refl
by_test false pass fail = fail refl

-- what is kept of a list is in it
in_kept : {X : Type 0} (p : X → Bool) (xs : List X) (x : X) → Contains (filter p xs) x → Contains xs x
in_kept p [] x h = h
in_kept p (y ∷ xs) x h = by_test (p y)
    (λ kept. ⊎_elim
    (λ (is : y ≡ x). subst (λ (z : _). Contains (y ∷ xs) z) is (in_head y xs))
    (λ (there : Contains (filter p xs) x). in_tail y x xs (in_kept p xs x there))
    (cons_cases y x (filter p xs) (subst (λ (l : List _). Contains l x) (kept_first p y xs kept) h)))
    (λ left. in_tail y x xs (in_kept p xs x (subst (λ (l : List _). Contains l x) (left_first p y xs left) h)))

-- ---- where an entry has the columns of a key

or_left : (a b : Bool) → a ≡ true → (a || b) ≡ true
or_left a b e = grind arith

or_right : (a b : Bool) → b ≡ true → (a || b) ≡ true
or_right true b e = refl
or_right false b e = e

is_number : (x : ℕ) → nat_eq x x ≡ true
is_number x = grind arith

has_in : (numbers : List ℕ) (x : ℕ) → Contains numbers x → has_number numbers x ≡ true
has_in [] x h = absurd (in_none x h)
has_in (y ∷ numbers) x h = ⊎_elim
    (λ (is : y ≡ x). or_left (nat_eq y x) (has_number numbers x) (subst (λ (z : ℕ). nat_eq y z ≡ true) is (is_number y)))
    (λ (there : Contains numbers x). or_right (nat_eq y x) (has_number numbers x) (has_in numbers x there))
    (cons_cases y x numbers h)

place_within : (numbers : List ℕ) (x : ℕ) → has_number numbers x ≡ true → place_of numbers x < length numbers
place_within [] x has = let e : false ≡ true = has in absurd cc
place_within (y ∷ numbers) x has = by_test (nat_eq y x)
    (λ here. rw here (omega arith))
    (λ other. rw other (let within = place_within numbers x (rw other at has) in omega (arith, within)))

each_of : {P : ℕ → Type 0} (xs : List ℕ) → ((x : ℕ) → Contains xs x → P x) → All P xs
each_of {P} [] each = All-nil P
each_of {P} (x ∷ xs) each = All-cons P x xs (each x (in_head x xs)) (each_of xs (λ y h. each y (in_tail x y xs h)))

all_mapped : (P : ℕ → Type 0) (f : ℕ → ℕ) (xs : List ℕ) → ((x : ℕ) → Contains xs x → P (f x)) → All P (map f xs)
all_mapped P f [] each = All-nil P
all_mapped P f (x ∷ xs) each = All-cons P (f x) (map f xs) (each x (in_head x xs)) (all_mapped P f xs (λ y h. each y (in_tail x y xs h)))

module _ (pages : Pages) (table : TableData) (number : IsNumber pages table.root) (index : IndexedPlaces) where
  -- an entry has the rowid of its row
  leads_by_rowid : (at : Option ℕ) (levels : ℕ) (all : List Row) → table.key ≡ RowKeyData.Rowid at → levels < most_levels → IsStored pages table levels all
      → (stored : List KeyedRow) → HoldsKeyedRows pages table stored → (keyed : KeyedRow) → Contains stored keyed
      → LeadsTo pages table (by.Rowid (length index.columns)) (entry_of index keyed) keyed.row
  leads_by_rowid at levels all key_is few is stored holds keyed h =
      let p = beside (StoresKeyedRow pages table) holds.places stored h.0 keyed holds.rows_are (get_of stored keyed h) in
      let cell = p.holds.at.is in
      let there = is.cells.cells.complete p.x (holds.cells.cells.sound p.x (get_contains holds.places h.0 p.x p.at)) in
      let stores : StoresRowBy (RowKeyData.Rowid at) pages table p.x keyed.row =
      record {
        cell = p.holds.cell;
        at = p.holds.at;
        is = record { bytes = p.holds.is.bytes; whole = p.holds.is.whole; is = p.holds.is.is };
      } in (
        cell.rowid,
        subst (λ (o : Option ℤ). slice_get (values_at keyed.row index.columns ++ row_key index.others o keyed.row) (length index.columns) ≡ Some (int cell.rowid))
            (sym (p.holds.rowid_is ∙ cell.has_rowid)) (has_rowid index.columns cell.rowid keyed.row),
        row_of_its_rowid pages table at levels all number few key_is is p.x keyed.row cell.rowid there (p.holds.cell, cell, cell.has_rowid)
            (subst (λ (k : RowKeyData). StoresRowBy k pages table p.x keyed.row) (sym key_is) stores),
      )

  -- or its PRIMARY KEY
  module _ (ats : List ℕ) (key_is : table.key ≡ RowKeyData.Primary ats) (within : IsKeyWithin table.key (length table.columns)) (counts : TreeCounts)
      (checked : IsCheckedPrimary pages table counts) (levels : ℕ) (few : levels < most_levels) (shape : HasShape pages Index levels table.root)
      (tells : TellsRow (RowKeyData.Primary ats) index) where
    abbrev entry_places : List ℕ
    entry_places = index.columns ++ index.others

    row_with_key : (place : Place) (row : Row) → IsPlaceOf pages Index table.root place → StoresPrimaryRow pages table place row
        → IsRowOfKey pages table (key_of_row table row) row
    row_with_key place row is stores =
        let its = held pages table within counts checked.tree in
        let by_key : StoresRowBy (RowKeyData.Primary ats) pages table place row =
        record {
          cell = stores.has.cell;
          at = entry_at_place pages stores.level place.page place.index stores.has.cell stores.page stores.has.is;
          is = record {
            bytes = stores.has.has.bytes;
            whole = stores.has.has.whole;
            is = record { values = stores.values; record_is = stores.has.has.record_is; makes = stores.makes };
          };
        } in
        record {
          levels = levels;
          values = its.values;
          kind_is = ap kind_of key_is;
          searchable = record { tree = record { few = few; number = number; shape = shape }; entries = its.entries; order = its.order };
          place = place;
          first = first_with pages table within counts checked.tree levels shape place (complete pages Index levels table.root shape place is) row stores;
          stores = subst (λ (k : RowKeyData). StoresRowBy k pages table place row) (sym key_is) by_key;
        }

    has_column : (c : ℕ) → Contains (firsts [] ats) c → has_number entry_places c ≡ true
    has_column c h = has_in entry_places c (tells c (number_in ats c (only_firsts [] ats h.0 c (get_of (firsts [] ats) c h))))

    leads_by_key : (ps : List ℕ) → ps ≡ map (place_of entry_places) (firsts [] ats) → (place : Place) (row : Row) → IsPlaceOf pages Index table.root place
        → StoresPrimaryRow pages table place row
        → All (λ at. at < length (entry_of index (rowless row))) ps × IsRowOfKey pages table (values_at (entry_of index (rowless row)) ps) row
    leads_by_key ps ps_are place row is stores =
        let key = firsts [] ats in
        let entry = key_entry index.columns index.others row in
        let long : length entry ≡ length entry_places =
        length-append (values_at row index.columns) (values_at row index.others)
        ∙ (λ k. length-map index.columns (λ at. slice_index_or row at null) k + length-map index.others (λ at. slice_index_or row at null) k)
        ∙ sym (length-append index.columns index.others) in
        let same : values_at entry ps ≡ key_of_row table row =
        ap (values_at entry) ps_are
        ∙ has_key index.columns index.others key row (each_of key has_column)
        ∙ ap (λ (k : RowKeyData). values_at row (firsts [] (primary_of k))) (sym key_is) in (
          subst (λ (l : List ℕ). All (λ at. at < length entry) l) (sym ps_are)
              (all_mapped (λ at. at < length entry) (place_of entry_places) key
              (λ c h. let within = place_within entry_places c (has_column c h) in omega (arith, within, long))),
          subst (λ (k : List Datum). IsRowOfKey pages table k row) (sym same) (row_with_key place row is stores),
        )

  leads_rowless : (ats : List ℕ) → table.key ≡ RowKeyData.Primary ats → IsKeyWithin table.key (length table.columns) → (counts : TreeCounts)
      → IsCheckedPrimary pages table counts → (levels : ℕ) → levels < most_levels → HasShape pages Index levels table.root
      → TellsRow (RowKeyData.Primary ats) index → (stored : List KeyedRow) → HoldsRowlessRows pages table stored → (keyed : KeyedRow) → Contains stored keyed
      → (ps : List ℕ) → ps ≡ map (place_of (index.columns ++ index.others)) (firsts [] ats)
      → All (λ at. at < length (entry_of index keyed)) ps × IsRowOfKey pages table (values_at (entry_of index keyed) ps) keyed.row
  leads_rowless ats key_is within counts checked levels few shape tells stored holds keyed h ps ps_are =
      let i = subst (λ (l : List KeyedRow). Contains l keyed) holds.rows_are h in
      let x = mapped_at rowless holds.values i.0 keyed (get_of (map rowless holds.values) keyed i) in
      let p = beside (StoresPrimaryRow pages table) holds.holds.places holds.values i.0 x.x holds.holds.rows_are x.at in
      let is = holds.holds.cells.sound p.x (get_contains holds.holds.places i.0 p.x p.at) in
      subst (λ (k : KeyedRow). All (λ at. at < length (entry_of index k)) ps × IsRowOfKey pages table (values_at (entry_of index k) ps) k.row) x.is
      (leads_by_key ats key_is within counts checked levels few shape tells ps ps_are p.x x.x is p.holds)

  -- whichever the table has
  leads_by : (key : RowKeyData) → table.key ≡ key → IsKeyWithin table.key (length table.columns) → (counts : TreeCounts) → IsCheckedBy key pages table counts
      → (levels : ℕ) → levels < most_levels → (all : List Row) → IsStoredBy key pages table levels all → TellsRow key index
      → (finder : RowFinder) → IsFinderBy key index.columns index.others finder
      → (stored : List KeyedRow) → HoldsTableRows key pages table stored → (keyed : KeyedRow) → Contains stored keyed
      → LeadsTo pages table finder (entry_of index keyed) keyed.row
  leads_by (RowKeyData.Rowid at) key_is within counts checked levels few all is tells finder by_it stored holds keyed h =
      subst (λ (f : RowFinder). LeadsTo pages table f (entry_of index keyed) keyed.row) (sym by_it)
      (leads_by_rowid at levels all key_is few is stored holds keyed h)
  leads_by (RowKeyData.Primary ats) key_is within counts checked levels few all is tells (by.Rowid at) by_it stored holds keyed h = absurd by_it
  leads_by (RowKeyData.Primary ats) key_is within counts checked levels few all is tells (by.Key ps) by_it stored holds keyed h =
      leads_rowless ats key_is within counts checked levels few is.shape tells stored holds keyed h ps.items by_it

-- ---- all entries of an index

module _ (index : IndexedPlaces) where
  abbrev pub entry_to : KeyedRow → EntryData
  entry_to keyed = record { values = entry_of index keyed; row = keyed.row }

  values_to : (rows : List KeyedRow) → map entry_values (map entry_to rows) ≡ map (entry_of index) rows
  values_to [] = refl
  values_to (keyed ∷ rows) = ap (λ (l : List (List Datum)). entry_of index keyed ∷ l) (values_to rows)

  pub rows_to : (rows : List KeyedRow) → entry_rows (map entry_to rows) ≡ map (λ keyed. keyed.row) rows
  rows_to [] = refl
  rows_to (keyed ∷ rows) = ap (λ (l : List Row). keyed.row ∷ l) (rows_to rows)

  head_same : (x y : List Datum) (xs ys : List (List Datum)) → x ∷ xs ≡ y ∷ ys → x ≡ y
  head_same x y xs ys e = cc

  tail_same : (x y : List Datum) (xs ys : List (List Datum)) → x ∷ xs ≡ y ∷ ys → xs ≡ ys
  tail_same x y xs ys e = cc

  module _ (pages : Pages) (table : TableData) (found : RowIndex) (values : Place → List Datum) where
    index_entries : (places : List Place) (rows : List KeyedRow) → map values places ≡ map (entry_of index) rows
        → ((place : Place) → Contains places place → HasRecordAt pages place (values place))
        → ((keyed : KeyedRow) → Contains rows keyed → LeadsTo pages table found.finder (entry_of index keyed) keyed.row)
        → AllZip (IsIndexEntry pages table found) places (map entry_to rows)
    index_entries [] [] same has leads = tt
    index_entries [] (keyed ∷ rows) same has leads = absurd cc
    index_entries (place ∷ places) [] same has leads = absurd cc
    index_entries (place ∷ places) (keyed ∷ rows) same has leads = (
      record {
        has = subst (λ (v : List Datum). HasRecordAt pages place v) (head_same (values place) (entry_of index keyed) (map values places) (map (entry_of index) rows) same)
            (has place (in_head place places));
        leads = leads keyed (in_head keyed rows);
      },
      index_entries places rows (tail_same (values place) (entry_of index keyed) (map values places) (map (entry_of index) rows) same)
          (λ other h. has other (in_tail place other places h)) (λ other h. leads other (in_tail keyed other rows h)),
    )

module _ (pages : Pages) (table : TableData) (number : IsNumber pages table.root) (within : IsKeyWithin table.key (length table.columns)) (counts : TreeCounts)
    (checked : IsCheckedBy table.key pages table counts) (stored : IsAnyStored pages table) (index : IndexedPlaces) (tells : TellsRow table.key index)
    (condition : Option Term) (levels : ℕ) (found : RowIndex) (by_it : IsFinderBy table.key index.columns index.others found.finder) (rows : List KeyedRow)
    (is : HoldsIndexedRows pages table index condition found.descends.items levels found.root rows) where
  leads_each : (keyed : KeyedRow) → Contains rows keyed → LeadsTo pages table found.finder (entry_of index keyed) keyed.row
  leads_each keyed h =
      let kept : List KeyedRow = filter (λ keyed. keeps_row condition keyed.row) is.stored in
      leads_by pages table number index table.key refl within counts checked stored.levels stored.few stored.rows stored.stored tells found.finder by_it
      is.stored is.stored_are keyed
      (in_kept (λ keyed. keeps_row condition keyed.row) is.stored keyed (Contains-permutation rows kept keyed (IsPermutation-sym kept rows is.same) h))

  pub holds_index : HoldsIndexEntries pages table found levels (map (entry_to index) rows)
  holds_index = record {
    values = is.values;
    searchable = is.searchable;
    values_are = is.entries_are ∙ sym (values_to index rows);
    each = index_entries index pages table found is.values (places_under pages Index levels found.root) rows is.entries_are
        (λ place h. record_at pages is.values found.root is.searchable.entries place (sound pages Index levels found.root is.searchable.tree.shape place h))
        leads_each;
    ascend = subst (λ (l : List (List Datum)). Ascend found.descends.items l) (sym (values_to index rows)) is.ascend;
  }
