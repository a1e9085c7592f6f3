-- Two lists, element by element, and lists of different elements.
use Rattle.std.proofs.Common.{◌≡◌, ◌<◌, ◌≤◌, ℕ, zero, suc, Contains, IsPermutation, List, [], ◌∷◌, Option, None, Some, length, map, slice_get, refl, sym, ◌∙◌, ap, subst, ⊎_elim, arith}
use Rattle.std.specs.Prelude.{option_map}
use Rattle.std.specs.List.{AllZip}
use Rattle.std.proofs.lemmas.Bool.{cases_lt}
use Rattle.std.proofs.lemmas.List.Sorted.{IsPermutation-map, length_permutation}
use Rattle.std.proofs.lemmas.Option.{slice_get-map, slice_get_read}
use Rattle.btree.proofs.lemmas.image.ListLemmas.{cons_cases, get_contains, in_head, in_none, in_tail}
use Rattle.integrity_trees.specs.wanted_entries.Bags.{AreIn, IsOnce}
use Rattle.integrity_trees.proofs.lemmas.wanted_entries.BagLemmas.{same}

-- an element of a list stands at a place
pub get_of : {X : Type 0} (xs : List X) (x : X) (h : Contains xs x) → slice_get xs h.0 ≡ Some x
get_of xs x h = slice_get_read xs (length xs) h.0 x refl h.1 (sym h.2)

-- what stands beside an element
pub record IsBeside {X Y : Type 0} (R : X → Y → Type 0) (xs : List X) (i : ℕ) (y : Y) : Type 0 where
  pub x : X
  pub at : slice_get xs i ≡ Some x
  pub holds : R x y

pub record HasBeside {X Y : Type 0} (R : X → Y → Type 0) (ys : List Y) (i : ℕ) (x : X) : Type 0 where
  pub y : Y
  pub at : slice_get ys i ≡ Some y
  pub holds : R x y

module _ {X Y : Type 0} (R : X → Y → Type 0) where
  pub beside : (xs : List X) (ys : List Y) (i : ℕ) (y : Y) → AllZip R xs ys → slice_get ys i ≡ Some y → IsBeside R xs i y
  beside [] [] i y all at = cc
  beside [] (b ∷ ys) i y all at = absurd all
  beside (a ∷ xs) [] i y all at = absurd all
  beside (a ∷ xs) (b ∷ ys) zero y all at = let e : b ≡ y = cc in record { x = a; at = refl; holds = subst (λ (z : Y). R a z) e all.0 }
  beside (a ∷ xs) (b ∷ ys) (suc i) y all at =
      let other = beside xs ys i y all.1 at in
      record { x = other.x; at = other.at; holds = other.holds }

  pub has_beside : (xs : List X) (ys : List Y) (i : ℕ) (x : X) → AllZip R xs ys → slice_get xs i ≡ Some x → HasBeside R ys i x
  has_beside [] ys i x all at = cc
  has_beside (a ∷ xs) [] i x all at = absurd all
  has_beside (a ∷ xs) (b ∷ ys) zero x all at = let e : a ≡ x = cc in record { y = b; at = refl; holds = subst (λ (z : X). R z b) e all.0 }
  has_beside (a ∷ xs) (b ∷ ys) (suc i) x all at =
      let other = has_beside xs ys i x all.1 at in
      record { y = other.y; at = other.at; holds = other.holds }

  pub as_long : (xs : List X) (ys : List Y) → AllZip R xs ys → length ys ≡ length xs
  as_long [] [] all = refl
  as_long [] (b ∷ ys) all = absurd all
  as_long (a ∷ xs) [] all = absurd all
  as_long (a ∷ xs) (b ∷ ys) all = ap suc (as_long xs ys all.1)

  -- what holds of each element and what a function gives of it
  pub each_mapped : (f : X → Y) (xs : List X) → ((x : X) → Contains xs x → R x (f x)) → AllZip R xs (map f xs)
  each_mapped f [] each = tt
  each_mapped f (x ∷ xs) each = (each x (in_head x xs), each_mapped f xs (λ z h. each z (in_tail x z xs h)))

-- different elements, each of which is in another list, are no more than that has
pub no_more : {X : Type 0} (xs ys : List X) → IsOnce xs → AreIn xs ys → length xs ≤ length ys
no_more xs ys once all = ⊎_elim
    (λ (less : length ys < length xs).
    let e = length_permutation xs ys (same xs ys once all (omega (arith, less))) in
    omega (arith, e, less))
    (λ (most : length xs ≤ length ys). most)
    (cases_lt (length ys) (length xs))

-- two lists as one of pairs
record Pair (X Y : Type 0) : Type 0 where
  one : X
  other : Y

module _ {X Y : Type 0} where
  pairs : List X → List Y → List (Pair X Y)
  pairs [] ys = []
  pairs (x ∷ xs) [] = []
  pairs (x ∷ xs) (y ∷ ys) = record { one = x; other = y } ∷ pairs xs ys

module _ {X Y : Type 0} (R : X → Y → Type 0) where
  others_of : (xs : List X) (ys : List Y) → AllZip R xs ys → map (λ pair. pair.other) (pairs xs ys) ≡ ys
  unfolding pairs
  others_of [] [] all = refl
  others_of [] (y ∷ ys) all = absurd all
  others_of (x ∷ xs) [] all = absurd all
  others_of (x ∷ xs) (y ∷ ys) all = ap (λ (l : List Y). y ∷ l) (others_of xs ys all.1)

  as_many : (xs : List X) (ys : List Y) → AllZip R xs ys → length (pairs xs ys) ≡ length xs
  unfolding pairs
  as_many [] [] all = refl
  as_many [] (y ∷ ys) all = absurd all
  as_many (x ∷ xs) [] all = absurd all
  as_many (x ∷ xs) (y ∷ ys) all = ap suc (as_many xs ys all.1)

  record IsPairAt (xs : List X) (i : ℕ) (pair : Pair X Y) : Type 0 where
    at : slice_get xs i ≡ Some pair.one
    holds : R pair.one pair.other

  pair_at : (xs : List X) (ys : List Y) (i : ℕ) (pair : Pair X Y) → AllZip R xs ys → slice_get (pairs xs ys) i ≡ Some pair → IsPairAt xs i pair
  unfolding pairs
  pair_at [] [] i pair all at = cc
  pair_at [] (y ∷ ys) i pair all at = absurd all
  pair_at (x ∷ xs) [] i pair all at = absurd all
  pair_at (x ∷ xs) (y ∷ ys) zero pair all at =
      let same : record { one = x; other = y } ≡ pair = cc in
      record { at = ap (λ (p : Pair X Y). Some p.one) same; holds = subst (λ (p : Pair X Y). R p.one p.other) same all.0 }
  pair_at (x ∷ xs) (y ∷ ys) (suc i) pair all at =
      let other = pair_at xs ys i pair all.1 at in
      record { at = other.at; holds = other.holds }

  in_pairs : (xs : List X) (ys : List Y) (x : X) → AllZip R xs ys → Contains xs x → (y : Y) × R x y × Contains (pairs xs ys) (record { one = x; other = y })
  unfolding pairs
  in_pairs [] ys x all h = absurd (in_none x h)
  in_pairs (a ∷ xs) [] x all h = absurd all
  in_pairs (a ∷ xs) (b ∷ ys) x all h = ⊎_elim
      (λ (e : a ≡ x). (
        b,
        subst (λ (z : X). R z b) e all.0,
        subst (λ (z : X). Contains (record { one = a; other = b } ∷ pairs xs ys) (record { one = z; other = b })) e (in_head (record { one = a; other = b }) (pairs xs ys)),
      ))
      (λ (there : Contains xs x).
      let more = in_pairs xs ys x all.1 there in
      (more.0, more.1, in_tail (record { one = a; other = b }) (record { one = x; other = more.0 }) (pairs xs ys) more.2))
      (cons_cases a x xs h)

  -- where a relation gives one value of each element, the values of the same different elements are one bag
  module _ (one_value : (x : X) (a b : Y) → R x a → R x b → a ≡ b) (xs ys : List X) (us vs : List Y) (all : AllZip R xs us) (too : AllZip R ys vs)
      (once : IsOnce xs) (again : IsOnce ys) (there : AreIn xs ys) (back : AreIn ys xs) where
    once_pairs : IsOnce (pairs xs us)
    once_pairs i j pair at_i at_j = once i j pair.one (pair_at xs us i pair all at_i).at (pair_at xs us j pair all at_j).at

    pairs_there : AreIn (pairs xs us) (pairs ys vs)
    pairs_there pair h =
        let is = pair_at xs us h.0 pair all (get_of (pairs xs us) pair h) in
        let found = in_pairs ys vs pair.one too (there pair.one (get_contains xs h.0 pair.one is.at)) in
        let e = one_value pair.one found.0 pair.other found.1 is.holds in
        subst (λ (y : Y). Contains (pairs ys vs) (record { one = pair.one; other = y })) e found.2

    pub same_values : IsPermutation us vs
    same_values =
        let few = no_more ys xs again back in
        let a = as_many xs us all in
        let b = as_many ys vs too in
        let bag = same (pairs xs us) (pairs ys vs) once_pairs pairs_there (omega (arith, few, a, b)) in
        subst (λ (l : List Y). IsPermutation l vs) (others_of xs us all)
        (subst (λ (l : List Y). IsPermutation (map (λ pair. pair.other) (pairs xs us)) l) (others_of ys vs too)
        (IsPermutation-map (λ pair. pair.other) (pairs xs us) (pairs ys vs) bag))

-- what an element of a mapped list is given by
pub record IsFrom {X Y : Type 0} (f : X → Y) (xs : List X) (i : ℕ) (y : Y) : Type 0 where
  pub x : X
  pub at : slice_get xs i ≡ Some x
  pub is : f x ≡ y

from_option : {X Y : Type 0} (f : X → Y) (xs : List X) (i : ℕ) (y : Y) (found : Option X) → slice_get xs i ≡ found → option_map f found ≡ Some y → IsFrom f xs i y
from_option f xs i y None at is = let e : None ≡ Some y = is in cc
from_option f xs i y (Some x) at is = let e : Some (f x) ≡ Some y = is in record { x = x; at = at; is = cc }

pub mapped_at : {X Y : Type 0} (f : X → Y) (xs : List X) (i : ℕ) (y : Y) → slice_get (map f xs) i ≡ Some y → IsFrom f xs i y
mapped_at f xs i y at = from_option f xs i y (slice_get xs i) refl (sym (slice_get-map f xs i) ∙ at)
