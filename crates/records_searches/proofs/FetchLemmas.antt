-- The row that an entry of an index leads to.
use Rattle.std.proofs.Common.{◌≡◌, ◌∙◌, ◌+◌, ◌<◌, ◌≤◌, ℕ, zero, suc, ℤ, List, [], ◌∷◌, ◌++◌, drop, get_or, length, map, take, slice_get, Option, None, Some, refl, sym, ap, subst, arith}
use Rattle.std.specs.Prelude.{◌↔◌, All, IfNone, IfSome, find, slice_index_or}
use Rattle.std.proofs.lemmas.List.{map_push, take_more, take_all}
use Rattle.std.proofs.lemmas.List.Elements.{All-get_or}
use Rattle.std.proofs.lemmas.Option.{get_or_from_slice_get, slice_get_past}
use Rattle.values.specs.Datum.{Datum, blob, datum_of, datum_of_ref, int, null, text}
use Rattle.values.specs.Row.{Row}
use Rattle.values.specs.declared.value.Value.{Value}
use Rattle.values.specs.declared.value.ValueRef.{ValueRef}
use Rattle.records.specs.Fields.{AreUnread, Unread}
use Rattle.records.specs.Record.{IsRecord}
use Rattle.btree.specs.declared.image.kind.TreeKind.{TreeKind}
use Rattle.btree.specs.declared.image.kind.TreeKind.TheVariants.{Table, Index}
use Rattle.btree.specs.image.Pages.{Pages}
use Rattle.btree.specs.image.Shape.{places_under}
use Rattle.btree.specs.image.Tree.{Place}
use Rattle.btree_cursor.specs.declared.cursor.found.Found.{Found}
use Rattle.btree_cursor.specs.cursor.Found.{IsFoundIn, IsRowWith, agrees, place_found}
use Rattle.btree_cursor.specs.cursor.Search.{HasRowWith, IsSearchable, IsSearchableIndex}
use Rattle.schema_tables.specs.TableData.{TableData}
use Rattle.records_tables.specs.Tables.{StoresAnyRow}
use Rattle.records_tables.proofs.FieldLemmas.{unread_none, unread_read}
use Rattle.records_searches.specs.Coming.{HoldsRowOf}
use Rattle.records_searches.specs.Entries.{IsRowOfKey, IsRowOfRowid, values_at}

-- ---- the values of a key

-- one more of them
pub key_more : (values : List Datum) (places : List ℕ) (i : ℕ) (here there : List Datum) (d : Datum) → i < length places
    → slice_get values (get_or places i 0) ≡ Some d → here ≡ values_at values (take i places) → there ≡ here ++ d ∷ []
    → there ≡ values_at values (take (i + 1) places)
key_more values places i here there d within at before is =
    is
    ∙ (λ k. before k ++ sym (get_or_from_slice_get values (get_or places i 0) d null at) k ∷ [])
    ∙ sym (map_push (λ (at : ℕ). slice_index_or values at null) (take i places) (get_or places i 0))
    ∙ sym (ap (values_at values) (take_more places i 0 within))

-- all of them
pub key_all : (values : List Datum) (places : List ℕ) (i : ℕ) (key : List Value) → length places ≤ i → take i (map datum_of key) ≡ values_at values (take i places)
    → i ≡ length places → map datum_of (take (length places) key) ≡ values_at values places
key_all values places i key end done same =
    take_datums (length places) key ∙ ap (λ (n : ℕ). take n (map datum_of key)) (sym same) ∙ done ∙ ap (values_at values) (take_all i places end)
  where
    take_datums : (n : ℕ) (values : List Value) → map datum_of (take n values) ≡ take n (map datum_of values)
    take_datums zero values = refl
    take_datums (suc n) [] = refl
    take_datums (suc n) (v ∷ values) = ap (λ (rest : List Datum). datum_of v ∷ rest) (take_datums n values)

-- a place of the entry is within it
pub no_field : (values : List Datum) (places : List ℕ) (i : ℕ) → i < length places → All (λ at. at < length values) places
    → length values ≤ get_or places i 0 → ⊥
no_field values places i within all short =
    let there : get_or places i 0 < length values = All-get_or (λ (at : ℕ). at < length values) places i 0 within all in
    omega (arith, there, short)

-- ---- the row that is found

module _ (pages : Pages) (table : TableData) (row : Row) where
  pub row_found : (rowid : ℤ) (is : IsRowOfRowid pages table rowid row) (it : Found) → IsRowWith pages is.levels table.root rowid (place_found it)
      → IsFoundIn pages Table table.root it → HoldsRowOf pages table it row
  row_found rowid is it here come = record {
    is_in = subst (λ (k : TreeKind). IsFoundIn pages k table.root it) (sym is.kind_is) come;
    stores = is.only (place_found it) here;
  }

  pub row_missing : (rowid : ℤ) (is : IsRowOfRowid pages table rowid row) → ¬ HasRowWith pages is.levels table.root rowid → ⊥
  row_missing rowid is none = none is.there

  pub key_found : (key : List Datum) (is : IsRowOfKey pages table key row) (it : Found)
      → Some (place_found it) ≡ find (λ at. agrees [] key (is.values at)) (places_under pages Index is.levels table.root)
      → IsFoundIn pages Index table.root it → HoldsRowOf pages table it row
  key_found key is it here come =
      let e : Some (place_found it) ≡ Some is.place = here ∙ is.first in
      let same : place_found it ≡ is.place = cc in
      record {
        is_in = subst (λ (k : TreeKind). IsFoundIn pages k table.root it) (sym is.kind_is) come;
        stores = subst (λ (p : Place). StoresAnyRow pages table p row) (sym same) is.stores;
      }

  pub key_missing : (key : List Datum) (is : IsRowOfKey pages table key row)
      → None ≡ find (λ at. agrees [] key (is.values at)) (places_under pages Index is.levels table.root) → ⊥
  key_missing key is none = let e : None ≡ Some is.place = none ∙ is.first in cc

-- ---- a field that is read

-- a reader that has passed the first fields of a record has the others to come
pub found_if : (bytes : List ℕ) (at : ℕ) (unread next : Unread) (result : Option ValueRef)
    → ((values : List Datum) → IsRecord bytes values → AreUnread unread (drop at values))
    → IfSome result (λ value. (first : Datum) (others : List Datum) → AreUnread unread (first ∷ others) ↔ ((first ≡ datum_of_ref value) × AreUnread next others))
    → IfSome result (λ value. ¬ AreUnread unread [])
    → IfSome result (λ value. (values : List Datum) → IsRecord bytes values → slice_get values at ≡ Some (datum_of_ref value))
found_if bytes at unread next None passed found more = tt
found_if bytes at unread next (Some value) passed found more =
    λ values is. (unread_read values unread at (passed values is) next (datum_of_ref value) more found).0

pub none_if : (bytes : List ℕ) (at : ℕ) (unread : Unread) (result : Option ValueRef)
    → ((values : List Datum) → IsRecord bytes values → AreUnread unread (drop at values))
    → IfNone result ((first : Datum) (others : List Datum) → ¬ AreUnread unread (first ∷ others))
    → IfNone result ((values : List Datum) → IsRecord bytes values → length values ≤ at)
none_if bytes at unread None passed none = λ values is. unread_none values unread at (passed values is) none
none_if bytes at unread (Some value) passed none = tt

-- a place past the last has no value, and one has no number that has another value
pub past_none : (values : List Datum) (at : ℕ) (value : Datum) → length values ≤ at → slice_get values at ≡ Some value → ⊥
past_none values at value past is = let e : None ≡ Some value = sym (slice_get_past values at past) ∙ is in cc

abbrev pub IsNoNumber : Datum → Type 0
IsNoNumber null = Unit {0}
IsNoNumber (int number) = ⊥
IsNoNumber (text bytes) = Unit {0}
IsNoNumber (blob bytes) = Unit {0}

pub not_number : (found : Option Datum) (value : Datum) (number : ℤ) → IsNoNumber value → found ≡ Some value → found ≡ Some (int number) → ⊥
not_number found null number lacks is other = let e : Some null ≡ Some (int number) = sym is ∙ other in cc
not_number found (int n) number lacks is other = lacks
not_number found (text bytes) number lacks is other = let e : Some (text bytes) ≡ Some (int number) = sym is ∙ other in cc
not_number found (blob bytes) number lacks is other = let e : Some (blob bytes) ≡ Some (int number) = sym is ∙ other in cc

some_number : (a b : ℤ) → Some (int a) ≡ Some (int b) → a ≡ b
some_number a b e = cc

-- ---- the row with a rowid, by a search of the table's tree

module _ (pages : Pages) (table : TableData) (root : ℕ) (root_is : table.root ≡ root) (row : Row) where
  module _ (read rowid : ℤ) (here there : Option Datum) (read_is : here ≡ Some (int read)) (same_field : here ≡ there) (rowid_is : there ≡ Some (int rowid))
      (is : IsRowOfRowid pages table rowid row) where
    same_rowid : read ≡ rowid
    same_rowid = some_number read rowid (sym read_is ∙ same_field ∙ rowid_is)

    searched : IsSearchable pages is.levels root
    searched = subst (λ (n : ℕ). IsSearchable pages is.levels n) root_is is.searchable

    pub found_by_rowid : (it : Found) → ((levels : ℕ) → IsSearchable pages levels root → IsRowWith pages levels root read (place_found it))
        → IsFoundIn pages Table root it → HoldsRowOf pages table it row
    found_by_rowid it finds come =
        row_found pages table row rowid is it
        (subst (λ (k : ℤ). IsRowWith pages is.levels table.root k (place_found it)) same_rowid
        (subst (λ (n : ℕ). IsRowWith pages is.levels n read (place_found it)) (sym root_is) (finds is.levels searched)))
        (subst (λ (n : ℕ). IsFoundIn pages Table n it) (sym root_is) come)

    pub none_by_rowid : ((levels : ℕ) → IsSearchable pages levels root → ¬ HasRowWith pages levels root read) → ⊥
    none_by_rowid finds =
        row_missing pages table row rowid is
        (subst (λ (k : ℤ). ¬ HasRowWith pages is.levels table.root k) same_rowid
        (subst (λ (n : ℕ). ¬ HasRowWith pages is.levels n read) (sym root_is) (finds is.levels searched)))

    pub read_by_rowid : {F : Type 0} → ((levels : ℕ) → IsSearchable pages levels root → F) → F
    read_by_rowid sound = sound is.levels searched

  -- the row with a key
  module _ (read key : List Datum) (same : read ≡ key) (is : IsRowOfKey pages table key row) where
    key_searched : IsSearchableIndex pages [] is.values is.levels root
    key_searched = subst (λ (n : ℕ). IsSearchableIndex pages [] is.values is.levels n) root_is is.searchable

    first_key : find (λ at. agrees [] read (is.values at)) (places_under pages Index is.levels root)
        ≡ find (λ at. agrees [] key (is.values at)) (places_under pages Index is.levels table.root)
    first_key = λ i. find (λ at. agrees [] (same i) (is.values at)) (places_under pages Index is.levels (sym root_is i))

    pub found_by_key : (it : Found) → ((levels : ℕ) (values : Place → List Datum) → IsSearchableIndex pages [] values levels root
        → Some (place_found it) ≡ find (λ at. agrees [] read (values at)) (places_under pages Index levels root))
        → IsFoundIn pages Index root it → HoldsRowOf pages table it row
    found_by_key it finds come =
        key_found pages table row key is it (finds is.levels is.values key_searched ∙ first_key)
        (subst (λ (n : ℕ). IsFoundIn pages Index n it) (sym root_is) come)

    pub none_by_key : ((levels : ℕ) (values : Place → List Datum) → IsSearchableIndex pages [] values levels root
        → None ≡ find (λ at. agrees [] read (values at)) (places_under pages Index levels root)) → ⊥
    none_by_key finds = key_missing pages table row key is (finds is.levels is.values key_searched ∙ first_key)

    pub read_by_key : {F : Type 0} → ((levels : ℕ) (values : Place → List Datum) → IsSearchableIndex pages [] values levels root → F) → F
    read_by_key sound = sound is.levels is.values key_searched
