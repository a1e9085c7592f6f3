-- Things no two of which are related.
use Rattle.std.proofs.Common.{◌≡◌, ℕ, suc, zero, ◌+◌, ◌<◌, ◌⊎◌, inl, inr, Bool, true, false, IsTrue, ◌↔◌, List, [], ◌∷◌, ◌++◌, length, get_or, map, take, drop, slice_get, Some, refl, sym, ap, ◌∙◌, subst, arith}
use Rattle.std.proofs.lemmas.Option.{slice_get-get_or, slice_get-map, slice_get_within}
use Rattle.std.specs.List.{Any}
use Rattle.std.specs.Option.{option_map}
use Rattle.schema_keys.specs.Names.{AreApart}
use Rattle.schema_keys.proofs.ListLemmas.{get_front, get_middle, get_pushed, map_next, map_split}

module _ {A X : Type 0} (R : A → A → Type 0) (of : X → A) where
  apart_push : (xs : List A) (x : A) → AreApart R xs → ((i : ℕ) (other : A) → slice_get xs i ≡ Some other → ¬ R other x)
      → AreApart R (xs ++ x ∷ [])
  apart_push xs x apart new i j a b less p q related = go (get_pushed xs x i a p) (get_pushed xs x j b q)
    where
      go : (slice_get xs i ≡ Some a) ⊎ ((i ≡ length xs) × (x ≡ a)) → (slice_get xs j ≡ Some b) ⊎ ((j ≡ length xs) × (x ≡ b)) → ⊥
      go (inl p) (inl q) = apart i j a b less p q related
      go (inl p) (inr (e, f)) = new i a p (subst (R a) (sym f) related)
      go (inr (e, f)) (inl q) = let within = slice_get_within xs j b q in absurd (omega (arith, within, e, less))
      go (inr (e, f)) (inr (g, h)) = absurd (omega (arith, e, g, less))

  any_related : (xs : List X) (y : A) (i : ℕ) (other : A) → slice_get (map of xs) i ≡ Some other → R other y → Any (λ x. R (of x) y) xs
  any_related [] y i other p related = absurd cc
  any_related (x ∷ xs) y zero other p related =
      let is : other ≡ of x = cc in (0, x, omega arith, refl, subst (λ o. R o y) is related)
  any_related (x ∷ xs) y (suc i) other p related =
      let rest : Any (λ x. R (of x) y) xs = any_related xs y i other p related in
      (suc rest.0, rest.1, omega (arith, rest.2), rest.3, rest.4)

  not_apart : (xs : List X) (x : X) (back : List A) → Any (λ y. R (of y) (of x)) xs → ¬ AreApart R (map of xs ++ of x ∷ back)
  not_apart xs x back (k, y, within, is, related) apart =
      let at : slice_get xs k ≡ Some y = slice_get-get_or xs k y within ∙ ap Some is in
      let there : slice_get (map of xs) k ≡ Some (of y) = slice_get-map of xs k ∙ ap (option_map of) at in
      apart k (length (map of xs)) (of y) (of x) (slice_get_within (map of xs) k (of y) there)
      (get_front (map of xs) (of x ∷ back) k (of y) there) (get_middle (map of xs) (of x) back) related

  -- of a list that is gone over, where it was tested whether one more is related to one of those before it
  module _ (xs : List X) (i : ℕ) (x : X) (y : A) (found : Bool) (within : i < length xs) (is : x ≡ get_or xs i x)
      (same : y ≡ of x) (tested : IsTrue found ↔ Any (λ z. R (of z) y) (take i xs)) where
    pub apart_next : found ≡ false → AreApart R (map of (take i xs)) → AreApart R (map of (take (i + 1) xs))
    apart_next none apart =
        subst (AreApart R) (sym (map_next of xs i x within is))
        (apart_push (map of (take i xs)) (of x) apart
        (λ k other p related.
        let a = any_related (take i xs) (of x) k other p related in
        let h : found ≡ true = tested.1 (subst (λ o. Any (λ z. R (of z) o) (take i xs)) (sym same) a) in cc))

    pub apart_stops : found ≡ true → ¬ AreApart R (map of xs)
    apart_stops some apart =
        not_apart (take i xs) x (map of (drop (i + 1) xs)) (subst (λ o. Any (λ z. R (of z) o) (take i xs)) same (tested.0 some))
        (subst (AreApart R) (map_split of xs i x within is) apart)
