-- Every list has a permutation that ascends, and where only equal elements tie it has one.
use Rattle.std.proofs.Common.{◌≡◌, refl, sym, ◌+◌, ℕ, zero, suc, ◌<◌, Bool, true, false, cond, List, [], ◌∷◌, length, get_or, ap, ◌∙◌, arith, ⊎_elim, IsPermutation, IsSortedBy}
use Rattle.std.specs.Cmp.{IsStrictWeakOrder}
use Rattle.std.proofs.lemmas.Bool.{cases_Bool, both_ways, true_from_ne_false}
use Rattle.std.proofs.lemmas.List.Sorted.{IsPermutation-refl, IsPermutation-trans, IsPermutation-cons, IsPermutation-middle}
use native.Mathlib.Numerals.{add-one}
use Rattle.semantics.specs.Sequence.{inserted, ascending}
use Rattle.expr.proofs.BagLemmas.{along_permutation}

module _ {X : Type 0} (lt : X → X → Bool) where
  -- the list begins with nothing that is less
  abbrev pub IsUnder : X → List X → Type 0
  IsUnder x [] = Unit {0}
  IsUnder x (y ∷ ys) = lt y x ≡ false

  -- ascending by recursion
  abbrev pub Rises : List X → Type 0
  Rises [] = Unit {0}
  Rises (x ∷ xs) = IsUnder x xs × Rises xs

  from_rises : (xs : List X) → Rises xs → (k : ℕ) (d : X) → suc k < length xs → lt (get_or xs (suc k) d) (get_or xs k d) ≡ false
  from_rises [] up k d below = absurd (omega arith)
  from_rises (x ∷ []) up k d below = absurd (omega arith)
  from_rises (x ∷ y ∷ ys) up zero d below = up.0
  from_rises (x ∷ y ∷ ys) up (suc k) d below = from_rises (y ∷ ys) up.1 k d (omega arith)

  pub IsSortedBy-rises : (xs : List X) → Rises xs → IsSortedBy lt xs
  IsSortedBy-rises xs up k d low below =
      ap (λ n. lt (get_or xs n d) (get_or xs k d)) (add-one k) ∙ from_rises xs up k d (omega arith)

  inserted-same : (x : X) (ys : List X) → IsPermutation (x ∷ ys) (inserted lt x ys)
  inserted-same x [] = IsPermutation-refl (x ∷ [])
  inserted-same x (y ∷ ys) =
      elim (lt y x) as (λ b. IsPermutation (x ∷ y ∷ ys) (cond b (y ∷ inserted lt x ys) (x ∷ y ∷ ys))) [
        | true ↦ IsPermutation-trans _ _ _ (IsPermutation-middle (x ∷ []) y ys) (IsPermutation-cons y _ _ (inserted-same x ys))
        | false ↦ IsPermutation-refl _
      ]

  pub ascending-same : (xs : List X) → IsPermutation xs (ascending lt xs)
  ascending-same [] = IsPermutation-refl []
  ascending-same (x ∷ xs) = IsPermutation-trans _ _ _ (IsPermutation-cons x _ _ (ascending-same xs)) (inserted-same x (ascending lt xs))

  module _ (order : IsStrictWeakOrder lt) where
    -- what is under both stays under
    inserted-under : (a x : X) (ys : List X) → lt x a ≡ false → IsUnder a ys → IsUnder a (inserted lt x ys)
    inserted-under a x [] first rest = first
    inserted-under a x (y ∷ ys) first rest =
        elim (lt y x) as (λ b. IsUnder a (cond b (y ∷ inserted lt x ys) (x ∷ y ∷ ys))) [ true ↦ rest | false ↦ first ]

    inserted-rises : (x : X) (ys : List X) → Rises ys → Rises (inserted lt x ys)
    inserted-rises x [] up = (tt, tt)
    inserted-rises x (y ∷ ys) up = ⊎_elim
        (λ (less : lt y x ≡ true). rw less (inserted-under y x ys (order.one_way y x less) up.0, inserted-rises x ys up.1))
        (λ (not_less : lt y x ≡ false). rw not_less (not_less, up))
        (cases_Bool (lt y x))

    pub ascending-rises : (xs : List X) → Rises (ascending lt xs)
    ascending-rises [] = tt
    ascending-rises (x ∷ xs) = inserted-rises x (ascending lt xs) (ascending-rises xs)

    -- the sorted list
    pub IsSortedBy-ascending : (xs : List X) → IsSortedBy lt (ascending lt xs)
    IsSortedBy-ascending xs = IsSortedBy-rises (ascending lt xs) (ascending-rises xs)

    rises-from : (xs : List X) → IsSortedBy lt xs → Rises xs
    rises-from [] up = tt
    rises-from (x ∷ []) up = (tt, tt)
    rises-from (x ∷ y ∷ ys) up =
        (up 0 x (omega arith) (omega arith), rises-from (y ∷ ys) (λ k d low below. at_next x (y ∷ ys) k d (up (suc k) d (omega arith) (omega (arith, below)))))
      where
        at_next : (x : X) (ys : List X) (k : ℕ) (d : X) → lt (get_or (x ∷ ys) (suc k + 1) d) (get_or (x ∷ ys) (suc k) d) ≡ false → lt (get_or ys (k + 1) d) (get_or ys k d) ≡ false
        at_next x ys k d h = ap (λ n. lt (get_or ys n d) (get_or ys k d)) (add-one k) ∙ (ap (λ n. lt (get_or (x ∷ ys) n d) (get_or ys k d)) (sym (add-one (suc k))) ∙ h)

    inserted-under_all : (x : X) (xs : List X) → IsUnder x xs → inserted lt x xs ≡ x ∷ xs
    inserted-under_all x [] under = refl
    inserted-under_all x (y ∷ ys) under = rw under refl

    ascending-rising : (xs : List X) → Rises xs → ascending lt xs ≡ xs
    ascending-rising [] up = refl
    ascending-rising (x ∷ xs) up = ap (inserted lt x) (ascending-rising xs up.1) ∙ inserted-under_all x xs up.0

    -- a list that ascends is its sorted list
    pub ascending-itself : (xs : List X) → IsSortedBy lt xs → ascending lt xs ≡ xs
    ascending-itself xs up = ascending-rising xs (rises-from xs up)

    -- what is less than one and not less than another
    between : (x y z : X) → lt z x ≡ true → lt z y ≡ false → lt y x ≡ true
    between x y z less not_less = true_from_ne_false (lt y x) (λ no. both_ways (lt z x) (order.chain z y x not_less no) less)

    module _ (tied : (x y : X) → lt x y ≡ false → lt y x ≡ false → x ≡ y) where
      two : (x y : X) (rest : List X)
          → cond (lt y x) (y ∷ x ∷ rest) (x ∷ y ∷ rest) ≡ cond (lt x y) (x ∷ y ∷ rest) (y ∷ x ∷ rest)
      two x y rest = ⊎_elim
          (λ (yx : lt y x ≡ true). rw (yx, order.one_way y x yx) refl)
          (λ (yx : lt y x ≡ false). ⊎_elim
          (λ (xy : lt x y ≡ true). rw (yx, xy) refl)
          (λ (xy : lt x y ≡ false). rw (yx, xy) (rw (tied x y xy yx) refl))
          (cases_Bool (lt x y)))
          (cases_Bool (lt y x))

      inserted_twice : (x y : X) (zs : List X) → inserted lt x (inserted lt y zs) ≡ inserted lt y (inserted lt x zs)
      inserted_twice x y [] = two x y []
      inserted_twice x y (z ∷ zs) =
          let twice : inserted lt x (inserted lt y zs) ≡ inserted lt y (inserted lt x zs) = inserted_twice x y zs in ⊎_elim
          (λ (zy : lt z y ≡ true). ⊎_elim
          (λ (zx : lt z x ≡ true). rw (zy, zx, zy) (ap (λ rest. z ∷ rest) twice))
          (λ (zx : lt z x ≡ false). rw (zy, zx, between y x z zy zx, zy) refl)
          (cases_Bool (lt z x)))
          (λ (zy : lt z y ≡ false). ⊎_elim
          (λ (zx : lt z x ≡ true). rw (zy, between x y z zx zy, zx, zy) refl)
          (λ (zx : lt z x ≡ false). rw (zy, zx, zy) (two x y (z ∷ zs)))
          (cases_Bool (lt z x)))
          (cases_Bool (lt z y))

      -- one bag has one list that ascends
      pub ascending-one : (xs ys : List X) → IsPermutation xs ys → ascending lt xs ≡ ascending lt ys
      ascending-one = along_permutation (λ xs ys. ascending lt xs ≡ ascending lt ys)
          (λ xs. refl) (λ x xs ys h. ap (inserted lt x) h) (λ x y xs. inserted_twice x y (ascending lt xs)) (λ xs ys zs p q. p ∙ q)
