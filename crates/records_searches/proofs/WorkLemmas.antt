-- How many pages a search asks for, and where an entry has what it leads to its row by.
use Rattle.std.proofs.Common.{◌≡◌, ◌∙◌, ◌+◌, ◌*◌, ◌≤◌, ℕ, ℤ, zero, suc, Bool, true, false, All, List, [], ◌∷◌, ◌++◌, length, map, slice_get, nat_eq, Some, refl, sym, ap, arith}
use Rattle.std.specs.Prelude.{slice_index_or}
use Rattle.std.proofs.lemmas.List.Elements.{All-head, All-tail}
use Rattle.values.specs.Datum.{Datum, int, null}
use Rattle.values.specs.Row.{Row}
use Rattle.pager.specs.PagerState.{PagerState}
use Rattle.records_tables.specs.primary_rows.Firsts.{has_number, place_of}
use Rattle.records_searches.specs.Entries.{values_at}
use Rattle.records_searches.specs.Finders.{key_entry, rowid_entry}
use Rattle.records_searches.specs.Work.{HasSearched, gave, opened}

-- each row costs a step and a look-up
asked : (levels fetch : ℕ) (start : PagerState) {m : ℕ} {now : PagerState} → HasSearched levels fetch start m now
    → now.asked ≤ start.asked + (2 * levels + 1) + m * (levels + fetch)
asked levels fetch start (opened now few) = omega (arith, few)
asked levels fetch start (gave {m} {old} fetched now before found stepped) =
    let so_far = asked levels fetch start before in
    omega (arith, so_far, found, stepped)

pub few_asked : (start now : PagerState) (levels fetch m : ℕ) → HasSearched levels fetch start m now
    → now.asked ≤ start.asked + ((levels + 1) * (2 + m) + fetch * m)
few_asked start now levels fetch m searched = let all = asked levels fetch start searched in omega (arith, all)

-- ---- where an entry has what it leads to its row by

behind : (front : List Datum) (n : ℕ) (value : Datum) → n ≡ length front → slice_get (front ++ value ∷ []) n ≡ Some value
behind [] zero value is = refl
behind [] (suc n) value is = absurd (omega (arith, is))
behind (x ∷ front) zero value is = absurd (omega (arith, is))
behind (x ∷ front) (suc n) value is = behind front n value (omega (arith, is))

length_values : (row : Row) (columns : List ℕ) → length columns ≡ length (values_at row columns)
length_values row [] = refl
length_values row (c ∷ columns) = ap suc (length_values row columns)

pub has_rowid : (columns : List ℕ) (rowid : ℤ) (row : Row) → slice_get (rowid_entry columns rowid row) (length columns) ≡ Some (int rowid)
has_rowid columns rowid row = behind (values_at row columns) (length columns) (int rowid) (length_values row columns)

values_append : (row : Row) (xs ys : List ℕ) → values_at row (xs ++ ys) ≡ values_at row xs ++ values_at row ys
values_append row [] ys = refl
values_append row (x ∷ xs) ys = ap (λ (l : List Datum). slice_index_or row x null ∷ l) (values_append row xs ys)

same_number : (x y : ℕ) → nat_eq x y ≡ true → x ≡ y
same_number x y e = grind arith

-- a column is at its place
at_place : (row : Row) (columns : List ℕ) (column : ℕ) → has_number columns column ≡ true
    → slice_index_or (values_at row columns) (place_of columns column) null ≡ slice_index_or row column null
at_place row [] column has = let e : false ≡ true = has in cc
at_place row (c ∷ columns) column has = by_test (nat_eq c column) refl (λ other. at_place row columns column (rw other at has))
  where
    by_test : (b : Bool) → nat_eq c column ≡ b
        → (nat_eq c column ≡ false → slice_index_or (values_at row columns) (place_of columns column) null ≡ slice_index_or row column null)
        → slice_index_or (values_at row (c ∷ columns)) (place_of (c ∷ columns) column) null ≡ slice_index_or row column null
    by_test true here later = rw here (ap (λ (k : ℕ). slice_index_or row k null) (same_number c column here))
    by_test false other later = rw other (later other)

pub has_key : (columns others key : List ℕ) (row : Row) → All (λ column. has_number (columns ++ others) column ≡ true) key
    → values_at (key_entry columns others row) (map (place_of (columns ++ others)) key) ≡ values_at row key
has_key columns others [] row all = refl
has_key columns others (k ∷ key) row all =
    let entry : values_at row (columns ++ others) ≡ key_entry columns others row = values_append row columns others in
    let here = at_place row (columns ++ others) k (All-head (λ (column : ℕ). has_number (columns ++ others) column ≡ true) k key all) in
    let first : slice_index_or (key_entry columns others row) (place_of (columns ++ others) k) null ≡ slice_index_or row k null =
    ap (λ (l : List Datum). slice_index_or l (place_of (columns ++ others) k) null) (sym entry) ∙ here in
    (λ i. first i ∷ has_key columns others key row (All-tail (λ (column : ℕ). has_number (columns ++ others) column ≡ true) k key all) i)
