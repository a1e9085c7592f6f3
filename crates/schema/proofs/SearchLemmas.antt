-- The search of a list for an element that has something.
use Rattle.std.proofs.Common.{◌≡◌, ℕ, ◌+◌, ◌<◌, ◌≤◌, ◌⊎◌, inl, inr, Bool, true, false, MatchBool, All, Contains, List, length, get_or, map, slice_get, Some, sym, ◌∙◌, subst, arith}
use Rattle.std.proofs.lemmas.Bool.{cases_order}
use Rattle.std.proofs.lemmas.List.Elements.{All-from_all_within, All-map}
use Rattle.std.proofs.lemmas.Option.{slice_get-get_or}
use Rattle.std.specs.List.{AllWithin, Any, HoldsAt}
use Rattle.schema_keys.proofs.ListLemmas.{any_at}
use Rattle.schema_keys.proofs.ServedLemmas.{any_of_map}
use Rattle.schema.proofs.KeyedLemmas.{contains_map}

module _ {X Y : Type 0} (of : X → Y) (P : Y → Type 0) (xs : List X) where
  -- none of the first has it
  abbrev pub NoneSoFar : ℕ → Type 0
  NoneSoFar count = (k : ℕ) (d : X) → k < count → ¬ P (of (get_or xs k d))

  pub none_at_end : (count : ℕ) → length xs ≤ count → NoneSoFar count → All (λ y. ¬ P y) (map of xs)
  none_at_end count all none = All-map (λ y. ¬ P y) of xs (λ k d within. none k d (omega (arith, all, within)))

  module _ (i : ℕ) (x : X) (within : i < length xs) (is : x ≡ get_or xs i x) where
    pub found_here : Contains (map of xs) (of x)
    found_here = contains_map of xs x (i, within, sym is)

    pub none_more : ¬ P (of x) → NoneSoFar i → NoneSoFar (i + 1)
    none_more not before k d less has = go (cases_order k i)
      where
        go : (k ≡ i) ⊎ ((k < i) ⊎ (i < k)) → ⊥
        go (inl at) =
            let first : slice_get xs i ≡ Some (get_or xs i d) = slice_get-get_or xs i d within in
            let second : slice_get xs i ≡ Some (get_or xs i x) = slice_get-get_or xs i x within in
            let both : Some (get_or xs i d) ≡ Some (get_or xs i x) = sym first ∙ second in
            let one : get_or xs i d ≡ x = cc in
            not (subst (λ z. P (of z)) one (subst (λ n. P (of (get_or xs n d))) at has))
        go (inr (inl before_it)) = before k d before_it has
        go (inr (inr behind)) = absurd (omega (arith, less, behind))

-- a test of each element found one that has it, or that all have something else
pub either_way : {X Y : Type 0} (of : X → Y) (P Q : Y → Type 0) (xs : List X) (found : Bool)
    → MatchBool found ((k : ℕ) × (k < length xs) × HoldsAt (λ x. P (of x)) xs k) (AllWithin (λ x. Q (of x)) xs 0 (length xs))
    → MatchBool found (Any P (map of xs)) (All Q (map of xs))
either_way of P Q xs true h = any_of_map P of xs (any_at (λ x. P (of x)) xs h.0 h.1 h.2)
either_way of P Q xs false h = All-map Q of xs (All-from_all_within (λ x. Q (of x)) xs h)
