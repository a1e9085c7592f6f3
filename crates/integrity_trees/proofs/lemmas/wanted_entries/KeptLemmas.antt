-- Lists of which some elements are left out.
use Rattle.std.proofs.Common.{◌≡◌, ◌≤◌, Bool, true, false, cond, Contains, List, [], ◌∷◌, length, map, ap, subst, ⊎_elim, arith}
use Rattle.std.specs.List.{filter}
use Rattle.std.proofs.lemmas.List.Sums.{count_by-le-length, length-filter}
use Rattle.integrity_trees.specs.wanted_entries.Bags.{IsOnce}
use Rattle.integrity_trees.proofs.lemmas.wanted_entries.BagLemmas.{cons_cases, in_head, in_tail, once_head, once_tail}
use Rattle.integrity_trees.proofs.lemmas.wanted_entries.NeighbourLemmas.{once_cons}

module _ {X : Type 0} (p : X → Bool) where
  pub kept_first : (x : X) (xs : List X) → p x ≡ true → filter p (x ∷ xs) ≡ x ∷ filter p xs
  kept_first x xs e = ap (λ b. cond b (x ∷ filter p xs) (filter p xs)) e

  pub left_first : (x : X) (xs : List X) → p x ≡ false → filter p (x ∷ xs) ≡ filter p xs
  left_first x xs e = ap (λ b. cond b (x ∷ filter p xs) (filter p xs)) e

  pub no_more_kept : (xs : List X) → length (filter p xs) ≤ length xs
  no_more_kept xs = let e = length-filter p xs in let f = count_by-le-length p xs in omega (arith, e, f)

module _ {X Y : Type 0} (f : X → Y) where
  pub in_map : (xs : List X) (x : X) → Contains xs x → Contains (map f xs) (f x)
  in_map [] x h = absurd (omega (arith, h.1))
  in_map (first ∷ xs) x h = ⊎_elim
      (λ (e : first ≡ x). subst (λ (z : X). Contains (f first ∷ map f xs) (f z)) e (in_head (f first) (map f xs)))
      (λ (there : Contains xs x). in_tail (f first) (f x) (map f xs) (in_map xs x there))
      (cons_cases first x xs h)

  module _ (p : X → Bool) where
    -- what is kept is there
    in_kept : (y : Y) (xs : List X) → Contains (map f (filter p xs)) y → Contains (map f xs) y
    in_kept y [] h = h
    in_kept y (x ∷ xs) h = by_test (p x) (in_kept y xs) h
      where
        by_test : (b : Bool) → (Contains (map f (filter p xs)) y → Contains (map f xs) y)
            → Contains (map f (cond b (x ∷ filter p xs) (filter p xs))) y → Contains (map f (x ∷ xs)) y
        by_test true more h = ⊎_elim
            (λ (e : f x ≡ y). subst (λ (z : Y). Contains (map f (x ∷ xs)) z) e (in_head (f x) (map f xs)))
            (λ (there : Contains (map f (filter p xs)) y). in_tail (f x) y (map f xs) (more there))
            (cons_cases (f x) y (map f (filter p xs)) h)
        by_test false more h = in_tail (f x) y (map f xs) (more h)

    -- different elements stay different where some are left out
    pub once_kept : (xs : List X) → IsOnce (map f xs) → IsOnce (map f (filter p xs))
    once_kept [] once = once
    once_kept (x ∷ xs) once = by_test (p x) (once_kept xs (once_tail (f x) (map f xs) once))
      where
        by_test : (b : Bool) → IsOnce (map f (filter p xs)) → IsOnce (map f (cond b (x ∷ filter p xs) (filter p xs)))
        by_test true more = once_cons (f x) (map f (filter p xs)) more (λ h. once_head (f x) (map f xs) once (in_kept (f x) xs h))
        by_test false more = more
