-- The place of the first item of a list that is the same.
use Rattle.std.proofs.Common.{◌≡◌, ◌↔◌, Bool, true, false, IsTrue, if◌then◌else◌, ℕ, suc, ◌+◌, ◌<◌, ◌≤◌, List, ◌∷◌, Option, Some, None, option_map, map, drop, length, get_or, refl, sym, ap, ◌∙◌, arith}
use Rattle.std.proofs.lemmas.List.{at_drop_all, at_drop_more}
use Rattle.semantics_names.specs.Places.{place_of}

-- what tells two to be the same exactly where they are equal tells what any other such test tells
pub same_so : {A : Type 0} (same : A → A → Bool) → ((x y : A) → (same x y ≡ true) ↔ (x ≡ y)) → (x y : A) (r : Bool) → (IsTrue r ↔ (x ≡ y)) → same x y ≡ r
same_so same law x y r is = by (same x y) r refl refl
  where
    by : (s t : Bool) → same x y ≡ s → r ≡ t → s ≡ t
    by true true e d = refl
    by false false e d = refl
    by true false e d = let differ : false ≡ true = sym d ∙ is.1 ((law x y).0 e) in absurd cc
    by false true e d = let differ : false ≡ true = sym e ∙ (law x y).1 (is.0 d) in absurd cc

-- the first that is the same is the first of `rest`, which begins at this place
abbrev pub IsBehind : {A : Type 0} → (A → A → Bool) → A → List A → ℕ → List A → Type 0
IsBehind same x all at rest = place_of same x all ≡ option_map (λ n. at + n) (place_of same x rest)

one_on : (at : ℕ) (o : Option ℕ) → option_map (λ n. at + n) (option_map suc o) ≡ option_map (λ n. at + 1 + n) o
one_on at None = refl
one_on at (Some n) = ap Some (omega arith)

from_none : (o : Option ℕ) → o ≡ option_map (λ n. 0 + n) o
from_none None = refl
from_none (Some n) = ap Some (omega arith)

module _ {X A : Type 0} (same : A → A → Bool) (view : X → A) (x : A) (xs : List X) where
  from : ℕ → Option ℕ
  from at = place_of same x (map view (drop at xs))

  pub at_start : IsBehind same x (map view xs) 0 (map view (drop 0 xs))
  at_start = from_none (place_of same x (map view xs))

  step : (at : ℕ) (y : X) (b : Bool) → at < length xs → y ≡ get_or xs at y → same x (view y) ≡ b
      → IsBehind same x (map view xs) at (map view (drop at xs))
      → place_of same x (map view xs) ≡ option_map (λ n. at + n) (if b then Some 0 else option_map suc (place_of same x (map view (drop (at + 1) xs))))
  step at y b lt is told before =
      before
      ∙ ap (λ o. option_map (λ n. at + n) o)
      (at_drop_more (λ ys. place_of same x (map view ys)) xs at y lt
      ∙ ap (λ z. place_of same x (view z ∷ map view (drop (at + 1) xs))) (sym is)
      ∙ ap (λ c. if c then Some 0 else option_map suc (place_of same x (map view (drop (at + 1) xs)))) told)

  -- it is this one
  pub is_found : (at : ℕ) (y : X) → at < length xs → y ≡ get_or xs at y → same x (view y) ≡ true
      → IsBehind same x (map view xs) at (map view (drop at xs)) → place_of same x (map view xs) ≡ Some at
  is_found at y lt is told before = step at y true lt is told before ∙ ap Some (omega arith)

  -- it is none of those up to this one
  pub is_passed : (at : ℕ) (y : X) → at < length xs → y ≡ get_or xs at y → same x (view y) ≡ false
      → IsBehind same x (map view xs) at (map view (drop at xs)) → IsBehind same x (map view xs) (at + 1) (map view (drop (at + 1) xs))
  is_passed at y lt is told before = step at y false lt is told before ∙ one_on at (place_of same x (map view (drop (at + 1) xs)))

  -- it is none
  pub is_none : (at : ℕ) → length xs ≤ at → IsBehind same x (map view xs) at (map view (drop at xs)) → place_of same x (map view xs) ≡ None
  is_none at past before = before ∙ ap (λ o. option_map (λ n. at + n) o) (at_drop_all (λ ys. place_of same x (map view ys)) xs at past)
