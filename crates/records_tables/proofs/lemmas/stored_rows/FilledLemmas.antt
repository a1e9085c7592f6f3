-- The columns of a table, of a record that may have fewer values.
use Rattle.std.proofs.Common.{◌≡◌, ◌≢◌, ◌<◌, ◌≤◌, ◌∙◌, ◌+◌, ℕ, zero, suc, Contains, List, [], ◌∷◌, ◌++◌, append-nil, drop, length, map, slice_get, slice_index_or, slice_set, take, Option, None, Some, refl, sym, ap, arith, subst}
use Rattle.std.proofs.lemmas.List.{length-append, length-drop, length-map, map_push}
use Rattle.std.proofs.lemmas.Option.{slice_get-map, slice_get_within}
use Rattle.values.specs.Datum.{Datum, datum_of_ref, null}
use Rattle.values.specs.declared.value.ValueRef.{ValueRef}
use Rattle.records_tables.proofs.lemmas.stored_rows.RowLemmas.{take_next}
use Rattle.std.specs.Option.{option_map}
use Rattle.schema_tables.specs.TableData.{MissingData, TableData, rowid_of}
use Rattle.records_tables.specs.stored_rows.Stored.{filled_values, older_values, without_rowid}

fill_same : (x y : Datum) → MissingData.Fill x ≡ MissingData.Fill y → x ≡ y
fill_same x y e = cc

some_same : {A : Type 0} (x y : A) → Some x ≡ Some y → x ≡ y
some_same x y e = cc

head_same : {A : Type 0} (x y : A) (xs ys : List A) → x ∷ xs ≡ y ∷ ys → x ≡ y
head_same x y xs ys e = cc

tail_same : {A : Type 0} (x y : A) (xs ys : List A) → x ∷ xs ≡ y ∷ ys → xs ≡ ys
tail_same x y xs ys e = cc

-- lists of values that fill alike are one
pub fills_same : (xs ys : List Datum) → map MissingData.Fill xs ≡ map MissingData.Fill ys → xs ≡ ys
fills_same [] [] e = refl
fills_same [] (y ∷ ys) e = cc
fills_same (x ∷ xs) [] e = cc
fills_same (x ∷ xs) (y ∷ ys) e =
    let first = fill_same x y (head_same _ _ _ _ e) in
    let rest = fills_same xs ys (tail_same _ _ _ _ e) in
    rw (first, rest) refl

-- a list of known values lacks none
pub none_refused : (xs : List Datum) → ¬ Contains (map MissingData.Fill xs) MissingData.Refused
none_refused xs (k, within, at) = not_at xs k within at
  where
    not_at : (xs : List Datum) (k : ℕ) → k < length (map MissingData.Fill xs) → slice_index_or (map MissingData.Fill xs) k MissingData.Refused ≡ MissingData.Refused → ⊥
    not_at [] k within at = absurd (omega arith)
    not_at (x ∷ xs) zero within at = cc
    not_at (x ∷ xs) (suc k) within at = not_at xs k (omega arith) at

pub contains_at : {A : Type 0} (xs : List A) (k : ℕ) (x : A) → slice_get xs k ≡ Some x → Contains xs x
contains_at xs k x here = (k, slice_get_within xs k x here, is_at xs k x here)
  where
    is_at : {A : Type 0} (xs : List A) (k : ℕ) (x : A) → slice_get xs k ≡ Some x → slice_index_or xs k x ≡ x
    is_at [] k x here = cc
    is_at (y ∷ ys) zero x here = some_same y x here
    is_at (y ∷ ys) (suc k) x here = is_at ys k x here

-- what a filled list has at a place
filled_from : (o : Option Datum) (v : Datum) → option_map MissingData.Fill o ≡ Some (MissingData.Fill v) → o ≡ Some v
filled_from None v e = cc
filled_from (Some w) v e = cc

pub filled_at : (full : List Datum) (told : List MissingData) (k : ℕ) (v : Datum) → map MissingData.Fill full ≡ told
    → slice_get told k ≡ Some (MissingData.Fill v) → slice_get full k ≡ Some v
filled_at full told k v is here =
    filled_from (slice_get full k) v (sym (slice_get-map MissingData.Fill full k) ∙ ap (λ (l : List MissingData). slice_get l k) is ∙ here)

pub not_refused : (full : List Datum) (told : List MissingData) (k : ℕ) → map MissingData.Fill full ≡ told
    → slice_get told k ≡ Some MissingData.Refused → ⊥
not_refused full told k is here =
    none_refused full (contains_at (map MissingData.Fill full) k MissingData.Refused (ap (λ (l : List MissingData). slice_get l k) is ∙ here))

drop-none : (n : ℕ) → drop {A = MissingData} n [] ≡ []
drop-none zero = refl
drop-none (suc n) = refl

-- what is stored, and what isn't
pub stored_at : (values : List Datum) (rest : List MissingData) (k : ℕ) (v : Datum) → slice_get values k ≡ Some v
    → slice_get (map MissingData.Fill values ++ rest) k ≡ Some (MissingData.Fill v)
stored_at [] rest k v here = cc
stored_at (x ∷ xs) rest zero v here = ap (λ (d : Datum). Some (MissingData.Fill d)) (some_same x v here)
stored_at (x ∷ xs) rest (suc k) v here = stored_at xs rest k v here

pub behind : (values : List Datum) (xs : List MissingData) (k : ℕ) → length values ≤ k
    → slice_get (map MissingData.Fill values ++ drop (length values) xs) k ≡ slice_get xs k
behind [] xs k past = refl
behind (v ∷ vs) xs zero past = absurd (omega arith)
behind (v ∷ vs) [] (suc k) past =
    subst (λ (l : List MissingData). slice_get (map MissingData.Fill vs ++ l) k ≡ None) (drop-none (length vs)) (behind vs [] k (omega arith))
behind (v ∷ vs) (x ∷ xs) (suc k) past = behind vs xs k (omega arith)

pub length-slice_set : {A : Type 0} (xs : List A) (k : ℕ) (x : A) → length (slice_set xs k x) ≡ length xs
length-slice_set [] k x = refl
length-slice_set (y ∷ ys) zero x = refl
length-slice_set (y ∷ ys) (suc k) x = ap suc (length-slice_set ys k x)

length-without : (key : Option ℕ) (xs : List MissingData) → length (without_rowid key xs) ≡ length xs
length-without None xs = refl
length-without (Some at) xs = length-slice_set xs at (MissingData.Fill null)

pub length-older : (table : TableData) → length (older_values table) ≡ length table.columns
length-older table = length-without (rowid_of table.key) (map (λ c. c.missing) table.columns) ∙ length-map table.columns (λ c. c.missing)

-- as many as the table has columns
pub length-filled : (table : TableData) (values : List Datum) → length values ≤ length table.columns
    → length (filled_values table values) ≡ length table.columns
length-filled table values few =
    omega (arith, few, length-older table, length-append (map MissingData.Fill values) (drop (length values) (older_values table)), length-map values MissingData.Fill, length-drop (length values) (older_values table))

-- what older rows have in a column
pub set_here : {A : Type 0} (xs : List A) (k : ℕ) (x : A) → k < length xs → slice_get (slice_set xs k x) k ≡ Some x
set_here [] k x within = absurd (omega arith)
set_here (y ∷ ys) zero x within = refl
set_here (y ∷ ys) (suc k) x within = set_here ys k x (omega arith)

pub set_other : {A : Type 0} (xs : List A) (k j : ℕ) (x : A) → k ≢ j → slice_get (slice_set xs k x) j ≡ slice_get xs j
set_other [] k j x other = refl
set_other (y ∷ ys) zero zero x other = absurd (other refl)
set_other (y ∷ ys) zero (suc j) x other = refl
set_other (y ∷ ys) (suc k) zero x other = refl
set_other (y ∷ ys) (suc k) (suc j) x other = set_other ys k j x (λ same. other (ap suc same))

-- a map of a list in which one element is another
pub map_set : {A B : Type 0} (f : A → B) (xs : List A) (k : ℕ) (x : A) → map f (slice_set xs k x) ≡ slice_set (map f xs) k (f x)
map_set f [] k x = refl
map_set f (y ∷ ys) zero x = refl
map_set f (y ∷ ys) (suc k) x = ap (λ l. f y ∷ l) (map_set f ys k x)

pub drop-all : {A : Type 0} (n : ℕ) (xs : List A) → length xs ≤ n → drop n xs ≡ []
drop-all zero [] past = refl
drop-all zero (x ∷ xs) past = absurd (omega arith)
drop-all (suc n) [] past = refl
drop-all (suc n) (x ∷ xs) past = drop-all n xs (omega arith)

-- a record with a value for each column
pub full_filled : (table : TableData) (values : List Datum) → length values ≡ length table.columns
    → map MissingData.Fill values ≡ filled_values table values
full_filled table values full =
    sym (ap (λ (l : List MissingData). map MissingData.Fill values ++ l) (drop-all (length values) (older_values table) (omega (arith, full, length-older table))) ∙ append-nil (map MissingData.Fill values))

-- one value more
pub filled_more : (told : List MissingData) (values more : List ValueRef) (i : ℕ) (value : ValueRef) → slice_get told i ≡ Some (MissingData.Fill (datum_of_ref value))
    → more ≡ values ++ value ∷ [] → map MissingData.Fill (map datum_of_ref values) ≡ take i told
    → map MissingData.Fill (map datum_of_ref more) ≡ take (i + 1) told
filled_more told values more i value here is so_far =
    ap (λ (l : List ValueRef). map MissingData.Fill (map datum_of_ref l)) is
    ∙ ap (map MissingData.Fill) (map_push datum_of_ref values value)
    ∙ map_push MissingData.Fill (map datum_of_ref values) (datum_of_ref value)
    ∙ ap (λ (l : List MissingData). l ++ MissingData.Fill (datum_of_ref value) ∷ []) so_far
    ∙ sym (take_next told i (MissingData.Fill (datum_of_ref value)) here)

pub filled_all : (table : TableData) (values : List Datum) (read : List Datum) (count : ℕ) → length values ≤ length table.columns → count ≡ length table.columns
    → map MissingData.Fill read ≡ take count (filled_values table values) → map MissingData.Fill read ≡ filled_values table values
filled_all table values read count few is so_far =
    so_far ∙ take-all count (filled_values table values) (omega (arith, is, length-filled table values few))
  where
    take-all : (n : ℕ) (xs : List MissingData) → length xs ≤ n → take n xs ≡ xs
    take-all zero [] past = refl
    take-all zero (x ∷ xs) past = absurd (omega arith)
    take-all (suc n) [] past = refl
    take-all (suc n) (x ∷ xs) past = ap (λ l. x ∷ l) (take-all n xs (omega arith))
