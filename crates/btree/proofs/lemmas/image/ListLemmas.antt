-- What lists that are made over a run of numbers contain, and which relations hold of each element and each later one.
use Rattle.std.proofs.Common.{◌≡◌, ℕ, zero, suc, ◌+◌, ◌<◌, ◌≤◌, ◌⊎◌, List, [], ◌∷◌, ◌++◌, Contains, Some, None, slice_get, map, refl, subst, inl, inr, ⊎_elim, arith}
use Rattle.std.proofs.lemmas.Bool.{cases_eq, cases_lt}
use Rattle.std.proofs.lemmas.List.Elements.{Contains-append_left, Contains-append_right, Contains-append_cases}
use Rattle.std.specs.List.{range_with_len, flat_map}

module _ {X : Type 0} where
  pub in_head : (x : X) (xs : List X) → Contains (x ∷ xs) x
  in_head x xs = (0, omega arith, refl)

  pub in_tail : (x y : X) (xs : List X) → Contains xs y → Contains (x ∷ xs) y
  in_tail x y xs h = (suc h.0, omega (arith, h.1), h.2)

  pub in_none : (y : X) → Contains [] y → ⊥
  in_none y h = omega (arith, h.1)

  pub cons_cases : (x y : X) (xs : List X) → Contains (x ∷ xs) y → (x ≡ y) ⊎ Contains xs y
  cons_cases x y xs (zero, l, e) = inl e
  cons_cases x y xs (suc k, l, e) = inr (k, omega arith, e)

  pub from_map : (f : ℕ → X) (x : X) (m i : ℕ) → Contains (map f (range_with_len i m)) x
      → (j : ℕ) × (i ≤ j) × (j < i + m) × (f j ≡ x)
  from_map f x zero i h = absurd (in_none x h)
  from_map f x (suc m) i h = ⊎_elim
      (λ (e : f i ≡ x). (i, omega arith, omega arith, e))
      (λ (b : Contains (map f (range_with_len (i + 1) m)) x). let r = from_map f x m (i + 1) b in (r.0, omega (arith, r.1), omega (arith, r.2), r.3))
      (cons_cases (f i) x (map f (range_with_len (i + 1) m)) h)

  pub to_map : (f : ℕ → X) (m i j : ℕ) → i ≤ j → j < i + m → Contains (map f (range_with_len i m)) (f j)
  to_map f zero i j least most = absurd (omega arith)
  to_map f (suc m) i j least most = ⊎_elim
      (λ (s : i ≡ j). subst (λ (k : ℕ). Contains (f i ∷ map f (range_with_len (i + 1) m)) (f k)) s (in_head (f i) (map f (range_with_len (i + 1) m))))
      (λ (ne : i ≡ j → ⊥). in_tail (f i) (f j) (map f (range_with_len (i + 1) m)) (to_map f m (i + 1) j (omega arith) (omega arith)))
      (cases_eq i j)

  pub from_fan : (f : ℕ → List X) (x : X) (m i : ℕ) → Contains (flat_map f (range_with_len i m)) x
      → (j : ℕ) × (i ≤ j) × (j < i + m) × Contains (f j) x
  from_fan f x zero i h = absurd (in_none x h)
  from_fan f x (suc m) i h = ⊎_elim
      (λ (a : Contains (f i) x). (i, omega arith, omega arith, a))
      (λ (b : Contains (flat_map f (range_with_len (i + 1) m)) x). let r = from_fan f x m (i + 1) b in (r.0, omega (arith, r.1), omega (arith, r.2), r.3))
      (Contains-append_cases (f i) (flat_map f (range_with_len (i + 1) m)) x h)

  pub to_fan : (f : ℕ → List X) (x : X) (m i j : ℕ) → i ≤ j → j < i + m → Contains (f j) x
      → Contains (flat_map f (range_with_len i m)) x
  to_fan f x zero i j least most h = absurd (omega arith)
  to_fan f x (suc m) i j least most h = ⊎_elim
      (λ (s : j ≡ i). Contains-append_left (f i) (flat_map f (range_with_len (i + 1) m)) x (subst (λ (k : ℕ). Contains (f k) x) s h))
      (λ (ne : j ≡ i → ⊥). Contains-append_right (f i) (flat_map f (range_with_len (i + 1) m)) x (to_fan f x m (i + 1) j (omega arith) (omega arith) h))
      (cases_eq j i)

  pub get_contains : (xs : List X) (j : ℕ) (y : X) → slice_get xs j ≡ Some y → Contains xs y
  get_contains [] j y e = absurd (let f : None ≡ Some y = e in cc)
  get_contains (x ∷ xs) zero y e = let s : x ≡ y = cc in (0, omega arith, s)
  get_contains (x ∷ xs) (suc j) y e = in_tail x y xs (get_contains xs j y e)

  -- R holds of each element and each later one
  abbrev pub Pairs : (X → X → Type 0) → List X → Type 0
  Pairs R [] = Unit {0}
  Pairs R (x ∷ xs) = ((y : X) → Contains xs y → R x y) × Pairs R xs

  pub pairs_append : (R : X → X → Type 0) (xs ys : List X) → Pairs R xs → Pairs R ys
      → ((x y : X) → Contains xs x → Contains ys y → R x y) → Pairs R (xs ++ ys)
  pairs_append R [] ys a b across = b
  pairs_append R (x ∷ xs) ys a b across = (
    λ y h. ⊎_elim (λ (l : Contains xs y). a.0 y l) (λ (r : Contains ys y). across x y (in_head x xs) r) (Contains-append_cases xs ys y h),
    pairs_append R xs ys a.1 b (λ p q l r. across p q (in_tail x p xs l) r),
  )

  pub pairs_map : (R : X → X → Type 0) (f : ℕ → X) (m i : ℕ) → ((j k : ℕ) → i ≤ j → j < k → k < i + m → R (f j) (f k))
      → Pairs R (map f (range_with_len i m))
  pairs_map R f zero i each = tt
  pairs_map R f (suc m) i each = (
    λ y h. let r = from_map f y m (i + 1) h in subst (λ (z : X). R (f i) z) r.3 (each i r.0 (omega arith) (omega (arith, r.1)) (omega (arith, r.2))),
    pairs_map R f m (i + 1) (λ j k least less most. each j k (omega arith) less (omega arith)),
  )

  pub pairs_fan : (R : X → X → Type 0) (f : ℕ → List X) (m i : ℕ) → ((j : ℕ) → i ≤ j → j < i + m → Pairs R (f j))
      → ((j k : ℕ) (x y : X) → i ≤ j → j < k → k < i + m → Contains (f j) x → Contains (f k) y → R x y)
      → Pairs R (flat_map f (range_with_len i m))
  pairs_fan R f zero i each across = tt
  pairs_fan R f (suc m) i each across =
      pairs_append R (f i) (flat_map f (range_with_len (i + 1) m)) (each i (omega arith) (omega arith))
      (pairs_fan R f m (i + 1) (λ j least most. each j (omega arith) (omega arith)) (λ j k x y least less most a b. across j k x y (omega arith) less (omega arith) a b))
      (λ x y a b. let r = from_fan f y m (i + 1) b in across i r.0 x y (omega arith) (omega (arith, r.1)) (omega (arith, r.2)) a r.3)

  pub pairs_at : (R : X → X → Type 0) (xs : List X) → Pairs R xs → (i j : ℕ) (x y : X) → i < j
      → slice_get xs i ≡ Some x → slice_get xs j ≡ Some y → R x y
  pairs_at R [] h i j x y less a b = absurd (let f : None ≡ Some y = b in cc)
  pairs_at R (z ∷ xs) h i zero x y less a b = absurd (omega arith)
  pairs_at R (z ∷ xs) h zero (suc j) x y less a b = let s : z ≡ x = cc in subst (λ (w : X). R w y) s (h.0 y (get_contains xs j y b))
  pairs_at R (z ∷ xs) h (suc i) (suc j) x y less a b = pairs_at R xs h.1 i j x y (omega arith) a b

  -- where R holds of no element and itself, each stands once
  pub pairs_once : (R : X → X → Type 0) (xs : List X) → Pairs R xs → ((x : X) → Contains xs x → R x x → ⊥)
      → (i j : ℕ) (x : X) → slice_get xs i ≡ Some x → slice_get xs j ≡ Some x → i ≡ j
  pairs_once R xs h never i j x a b = ⊎_elim
      (λ (s : i ≡ j). s)
      (λ (ne : i ≡ j → ⊥). absurd (never x (get_contains xs i x a) (⊎_elim
      (λ (less : i < j). pairs_at R xs h i j x x less a b)
      (λ (most : j ≤ i). let more : j < i = omega arith in pairs_at R xs h j i x x more b a)
      (cases_lt i j))))
      (cases_eq i j)
