-- The rows that a search fetches are those that it stands for.
use Rattle.std.proofs.Common.{◌≡◌, ℕ, zero, suc, ◌<◌, Bool, true, false, cond, List, [], ◌∷◌, map, length, get_or, set, swap, refl, arith, IsPermutation}
use Rattle.std.specs.Prelude.{All}
use Rattle.std.specs.List.{filter}
use Rattle.std.proofs.lemmas.List.Elements.{All-head, All-tail}
use Rattle.std.proofs.lemmas.List.Sorted.{IsPermutation-refl, IsPermutation-trans, IsPermutation-cons, IsPermutation-middle, IsPermutation-keeps, IsPermutation-map}
use Rattle.values.specs.Datum.{Datum}
use Rattle.btree_cursor.specs.key_ranges.Laws.{SearchIsFilter}

-- a relation that holds of a list and itself, of two heads that change places, under a head and along a chain, holds of a list and each permutation
module _ {X : Type 0} (R : List X → List X → Type 0)
    (same : (xs : List X) → R xs xs)
    (under : (x : X) (xs ys : List X) → R xs ys → R (x ∷ xs) (x ∷ ys))
    (turned : (x y : X) (xs : List X) → R (x ∷ y ∷ xs) (y ∷ x ∷ xs))
    (chain : (xs ys zs : List X) → R xs ys → R ys zs → R xs zs) where
  -- the head goes to a later place, whose element comes to the head
  head_swapped : (x : X) (xs : List X) (k : ℕ) (d : X) → k < length xs → R (x ∷ xs) (get_or xs k d ∷ set xs k x)
  head_swapped x [] k d h = absurd (omega arith)
  head_swapped x (y ∷ ys) zero d h = turned x y ys
  head_swapped x (y ∷ ys) (suc k) d h =
      chain _ _ _ (turned x y ys)
      (chain _ _ _ (under y _ _ (head_swapped x ys k d (omega arith))) (turned y (get_or ys k d) (set ys k x)))

  places_swapped : (xs : List X) (i j : ℕ) (d : X) → i < length xs → j < length xs → R xs (set (set xs i (get_or xs j d)) j (get_or xs i d))
  places_swapped [] i j d p q = absurd (omega arith)
  places_swapped (x ∷ xs) zero zero d p q = same (x ∷ xs)
  places_swapped (x ∷ xs) zero (suc j) d p q = head_swapped x xs j d (omega arith)
  places_swapped (x ∷ xs) (suc i) zero d p q = head_swapped x xs i d (omega arith)
  places_swapped (x ∷ xs) (suc i) (suc j) d p q = under x _ _ (places_swapped xs i j d (omega arith) (omega arith))

  swapped : (xs : List X) (i j : ℕ) → i < length xs → j < length xs → R xs (swap xs i j)
  swapped [] i j p q = same []
  swapped (x ∷ xs) i j p q = places_swapped (x ∷ xs) i j x p q

  pub along_permutation : (xs ys : List X) → IsPermutation xs ys → R xs ys
  along_permutation xs = IsPermutation-keeps xs (R xs) (same xs) (λ l i j p q h. chain xs l _ h (swapped l i j p q))

-- a filter keeps each of two neighbours by itself
filter_turned : {A : Type 0} (p : A → Bool) (x y : A) (xs : List A) → IsPermutation (filter p (x ∷ y ∷ xs)) (filter p (y ∷ x ∷ xs))
filter_turned p x y xs =
    elim (p x) as (λ b. IsPermutation (cond b (x ∷ filter p (y ∷ xs)) (filter p (y ∷ xs))) (cond (p y) (y ∷ cond b (x ∷ filter p xs) (filter p xs)) (cond b (x ∷ filter p xs) (filter p xs)))) [
      | true ↦ elim (p y) as (λ b. IsPermutation (x ∷ cond b (y ∷ filter p xs) (filter p xs)) (cond b (y ∷ x ∷ filter p xs) (x ∷ filter p xs)))
          [ true ↦ IsPermutation-middle (x ∷ []) y (filter p xs) | false ↦ IsPermutation-refl _ ]
      | false ↦ IsPermutation-refl _
    ]

filter_under : {A : Type 0} (p : A → Bool) (x : A) (xs ys : List A) → IsPermutation (filter p xs) (filter p ys) → IsPermutation (filter p (x ∷ xs)) (filter p (x ∷ ys))
filter_under p x xs ys h =
    elim (p x) as (λ b. IsPermutation (cond b (x ∷ filter p xs) (filter p xs)) (cond b (x ∷ filter p ys) (filter p ys)))
    [ true ↦ IsPermutation-cons x _ _ h | false ↦ h ]

pub IsPermutation-filter : {A : Type 0} (p : A → Bool) (xs ys : List A) → IsPermutation xs ys → IsPermutation (filter p xs) (filter p ys)
IsPermutation-filter p = along_permutation (λ xs ys. IsPermutation (filter p xs) (filter p ys))
    (λ xs. IsPermutation-refl _) (filter_under p) (filter_turned p) (λ xs ys zs. IsPermutation-trans _ _ _)

module _ (covered chosen : List Datum → Bool) (entry_of fetch : List Datum → List Datum) (within : List Datum → Bool) where
  kept : (rows : List (List Datum)) → All (λ row. within (entry_of row) ≡ chosen row) rows → All (λ row. chosen row ≡ true → covered row ≡ true) rows
      → All (λ row. fetch (entry_of row) ≡ row) rows
      → map fetch (filter within (map entry_of (filter covered rows))) ≡ filter chosen rows
  kept [] a b c = refl
  kept (row ∷ rows) a b c =
      by-cover (covered row) (chosen row) refl refl (All-head (λ r. within (entry_of r) ≡ chosen r) row rows a) (All-head (λ r. chosen r ≡ true → covered r ≡ true) row rows b)
      (All-head (λ r. fetch (entry_of r) ≡ r) row rows c)
      (kept rows (All-tail (λ r. within (entry_of r) ≡ chosen r) row rows a) (All-tail (λ r. chosen r ≡ true → covered r ≡ true) row rows b) (All-tail (λ r. fetch (entry_of r) ≡ r) row rows c))
    where
      by-cover : (v h : Bool) → covered row ≡ v → chosen row ≡ h → within (entry_of row) ≡ chosen row → (chosen row ≡ true → covered row ≡ true) → fetch (entry_of row) ≡ row
          → map fetch (filter within (map entry_of (filter covered rows))) ≡ filter chosen rows
          → map fetch (filter within (map entry_of (cond v (row ∷ filter covered rows) (filter covered rows)))) ≡ cond h (row ∷ filter chosen rows) (filter chosen rows)
      by-cover true true e k agree cover back rest = rw (agree, k, back, rest) refl
      by-cover true false e k agree cover back rest = rw (agree, k) rest
      by-cover false true e k agree cover back rest = cc (cover k)
      by-cover false false e k agree cover back rest = rest

pub search_is_filter : SearchIsFilter
search_is_filter rows entries covered chosen entry_of within fetch is =
    let bag = IsPermutation-map fetch (filter within entries) (filter within (map entry_of (filter covered rows))) (IsPermutation-filter within entries (map entry_of (filter covered rows)) is.entries) in
    rw (kept covered chosen entry_of fetch within rows is.agree is.covers is.back) at bag
