-- What a filter keeps of a list, by places.
use Rattle.std.proofs.Common.{◌≡◌, ◌∙◌, ◌+◌, ◌-◌, ◌<◌, ◌≤◌, ◌++◌, Bool, true, false, cond, ℕ, zero, suc, List, [], ◌∷◌, drop, filter, get_or, length, slice_range, take, refl, sym, ap, arith}
use Rattle.std.proofs.lemmas.List.{append-nil, drop-drop, get_or-drop, get_or-take, length-drop, length-take-le, take-append-drop}
use Rattle.std.proofs.lemmas.List.Elements.{filter-append}

module _ {X : Type 0} (p : X → Bool) where
  -- an element that is kept stands behind those that are kept before it
  pub kept_at : (xs : List X) (j : ℕ) (d : X) → j < length xs → p (get_or xs j d) ≡ true
      → (length (filter p (take j xs)) < length (filter p xs)) × (get_or (filter p xs) (length (filter p (take j xs))) d ≡ get_or xs j d)
  kept_at [] j d h e = absurd (omega (arith, h))
  kept_at (x ∷ xs) zero d h e = rw e (omega arith, refl)
  kept_at (x ∷ xs) (suc j) d h e =
      let ih = kept_at xs j d (omega (arith, h)) e in
      elim (p x) as (λ b. (length (cond b (x ∷ filter p (take j xs)) (filter p (take j xs))) < length (cond b (x ∷ filter p xs) (filter p xs)))
      × (get_or (cond b (x ∷ filter p xs) (filter p xs)) (length (cond b (x ∷ filter p (take j xs)) (filter p (take j xs)))) d ≡ get_or xs j d)) [
        | true ↦ (omega (arith, ih.0), ih.1)
        | false ↦ ih
      ]

  pub none_kept : (xs : List X) → ((k : ℕ) (d : X) → k < length xs → p (get_or xs k d) ≡ false) → filter p xs ≡ []
  none_kept [] h = refl
  none_kept (x ∷ xs) h = rw (h 0 x (omega arith)) (none_kept xs (λ k d low. h (suc k) d (omega (arith, low))))

  pub all_kept : (xs : List X) → ((k : ℕ) (d : X) → k < length xs → p (get_or xs k d) ≡ true) → filter p xs ≡ xs
  all_kept [] h = refl
  all_kept (x ∷ xs) h = rw (h 0 x (omega arith)) (ap (λ l. x ∷ l) (all_kept xs (λ k d low. h (suc k) d (omega (arith, low)))))

  -- what is kept is a stretch, where just its places are kept
  pub slice_kept : (xs : List X) (a b : ℕ) → a ≤ b → b ≤ length xs → ((k : ℕ) (d : X) → k < a → p (get_or xs k d) ≡ false)
      → ((k : ℕ) (d : X) → a ≤ k → k < b → p (get_or xs k d) ≡ true) → ((k : ℕ) (d : X) → b ≤ k → k < length xs → p (get_or xs k d) ≡ false)
      → filter p xs ≡ slice_range xs a b
  slice_kept xs a b low high before inside behind =
      let rest = length-drop a xs in
      let width = length-take-le (b - a) (drop a xs) (omega (arith, rest, low, high)) in
      let front = length-take-le a xs (omega (arith, low, high)) in
      let back = length-drop b xs in
      let past : a + (b - a) ≡ b = omega (arith, low) in
      ap (filter p) (sym (take-append-drop a xs)) ∙ filter-append p (take a xs) (drop a xs)
      ∙ (λ i. none_kept (take a xs) (λ k d h. ap p (get_or-take a xs k d (omega (arith, h, front))) ∙ before k d (omega (arith, h, front))) i ++ filter p (drop a xs))
      ∙ ap (filter p) (sym (take-append-drop (b - a) (drop a xs))) ∙ filter-append p (take (b - a) (drop a xs)) (drop (b - a) (drop a xs))
      ∙ (λ i. all_kept (take (b - a) (drop a xs)) (λ k d h. ap p (get_or-take (b - a) (drop a xs) k d (omega (arith, h, width)) ∙ get_or-drop a xs k d) ∙ inside (a + k) d (omega arith) (omega (arith, h, width, low))) i
      ++ filter p (drop-drop (b - a) a xs i))
      ∙ ap (λ m. take (b - a) (drop a xs) ++ filter p (drop m xs)) past
      ∙ ap (λ l. take (b - a) (drop a xs) ++ l) (none_kept (drop b xs) (λ k d h. ap p (get_or-drop b xs k d) ∙ behind (b + k) d (omega arith) (omega (arith, h, back))))
      ∙ append-nil (take (b - a) (drop a xs))
