-- Bags and how often they hold each element, for any test of equality.
use Rattle.std.proofs.Common.{◌≡◌, ℕ, zero, suc, ◌+◌, ◌*◌, min, ◌<◌, Bool, true, false, cond, ◌||◌, List, [], ◌∷◌, ◌++◌, replicate, flat_map, refl, sym, ap, ◌∙◌, subst, arith, IsPermutation}
use Rattle.std.specs.List.{list_any}
use Rattle.expr.proofs.BagLemmas.{along_permutation}
use Rattle.std.proofs.lemmas.Bool.{false≢true}
use Rattle.std.proofs.lemmas.List.Sorted.{IsPermutation-refl, IsPermutation-sym, IsPermutation-trans, IsPermutation-cons, IsPermutation-middle}

module _ {X : Type 0} (eq : X → X → Bool) (reads : (x y : X) → eq x y ≡ true → x ≡ y) (itself : (x : X) → eq x x ≡ true) where
  abbrev count : X → List X → ℕ
  count r [] = 0
  count r (x ∷ xs) = cond (eq r x) 1 0 + count r xs

  abbrev one_each : List X → List X
  one_each [] = []
  one_each (x ∷ xs) = cond (list_any (eq x) xs) (one_each xs) (x ∷ one_each xs)

  pub count-append : (r : X) (xs ys : List X) → count r (xs ++ ys) ≡ count r xs + count r ys
  count-append r [] ys = omega arith
  count-append r (x ∷ xs) ys = omega (arith, count-append r xs ys)

  -- a place of an element that is held
  place : (x : X) (ys : List X) → 0 < count x ys → (front : List X) × (back : List X) × (ys ≡ front ++ x ∷ back)
  place x [] h = absurd (omega arith)
  place x (y ∷ ys) h =
      elim (eq x y) as (λ b. eq x y ≡ b → 0 < cond b 1 0 + count x ys → (front : List X) × (back : List X) × (y ∷ ys ≡ front ++ x ∷ back)) [
        | true ↦ λ e p. ([], ys, ap (λ z. z ∷ ys) (sym (reads x y e)))
        | false ↦ λ e p. let later = place x ys (omega (arith, p)) in (y ∷ later.0, later.1, ap (λ zs. y ∷ zs) later.2)
      ] refl h

  count_out : (r x : X) (front back : List X) → count r (front ++ x ∷ back) ≡ cond (eq r x) 1 0 + count r (front ++ back)
  count_out r x front back = rw (count-append r front (x ∷ back), count-append r front back) (omega arith)

  pub permutation_from_counts : (xs ys : List X) → ((r : X) → count r xs ≡ count r ys) → IsPermutation xs ys
  permutation_from_counts [] [] h = IsPermutation-refl []
  permutation_from_counts [] (y ∷ ys) h = absurd (let e = rw (itself y) at (h y) in omega (arith, e))
  permutation_from_counts (x ∷ xs) ys h =
      let some : 0 < count x ys = let e = rw (itself x) at (h x) in omega (arith, e) in
      let at = place x ys some in
      let rest : (r : X) → count r xs ≡ count r (at.0 ++ at.1) = λ r. let e = rw at.2 at (h r) in omega (arith, e, count_out r x at.0 at.1) in
      rw at.2 (IsPermutation-trans _ _ _ (IsPermutation-cons x _ _ (permutation_from_counts xs (at.0 ++ at.1) rest)) (IsPermutation-sym _ _ (IsPermutation-middle at.0 x at.1)))

  pub counts_from_permutation : (xs ys : List X) → IsPermutation xs ys → (r : X) → count r xs ≡ count r ys
  counts_from_permutation = along_permutation (λ xs ys. (r : X) → count r xs ≡ count r ys)
      (λ xs r. refl) (λ x xs ys h r. ap (λ n. cond (eq r x) 1 0 + n) (h r)) (λ x y xs r. omega arith) (λ xs ys zs p q r. p r ∙ q r)

  count-replicate : (r q : X) (n : ℕ) → count r (replicate n q) ≡ cond (eq r q) n 0
  count-replicate r q zero = elim (eq r q) as (λ b. ◌≡◌ {A = ℕ} 0 (cond b 0 0)) [ true ↦ refl | false ↦ refl ]
  count-replicate r q (suc n) = rw (count-replicate r q n) (elim (eq r q) as (λ b. cond b 1 0 + cond b n 0 ≡ cond b (suc n) 0) [ true ↦ omega arith | false ↦ refl ])

  -- each element of a list, as often as a number of it says
  count-made : (g : X → ℕ) (r : X) (zs : List X) → count r (flat_map (λ q. replicate (g q) q) zs) ≡ count r zs * g r
  count-made g r [] = omega arith
  count-made g r (q ∷ zs) =
      rw (count-append r (replicate (g q) q) (flat_map (λ q. replicate (g q) q) zs), count-replicate r q (g q), count-made g r zs)
      (elim (eq r q) as (λ b. eq r q ≡ b → cond b (g q) 0 + count r zs * g r ≡ (cond b 1 0 + count r zs) * g r)
      [ true ↦ λ e. let same = ap g (reads r q e) in omega (arith, same) | false ↦ λ e. omega arith ] refl)

  any_held : (x : X) (xs : List X) (b : Bool) → list_any (eq x) xs ≡ b → cond b (0 < count x xs) (count x xs ≡ 0)
  any_held x [] true e = absurd (false≢true e)
  any_held x [] false e = refl
  any_held x (y ∷ ys) b e = elim (eq x y) as (λ c. (c || list_any (eq x) ys) ≡ b → cond b (0 < cond c 1 0 + count x ys) (cond c 1 0 + count x ys ≡ 0)) [
    | true ↦ λ p. subst (λ d. cond d (0 < 1 + count x ys) (1 + count x ys ≡ 0)) p (omega arith)
    | false ↦ λ p. subst (λ d. cond b (0 < d) (d ≡ 0)) (omega arith) (any_held x ys b p)
  ] e

  pub count-one_each : (r : X) (xs : List X) → count r (one_each xs) ≡ min 1 (count r xs)
  count-one_each r [] = refl
  count-one_each r (x ∷ xs) =
      elim (list_any (eq x) xs) as (λ b. list_any (eq x) xs ≡ b → count r (cond b (one_each xs) (x ∷ one_each xs)) ≡ min 1 (cond (eq r x) 1 0 + count r xs)) [
        | true ↦ λ e. let held = any_held x xs true e in rw (count-one_each r xs)
            (elim (eq r x) as (λ c. eq r x ≡ c → min 1 (count r xs) ≡ min 1 (cond c 1 0 + count r xs))
            [ true ↦ λ p. let here : 0 < count r xs = rw (reads r x p) held in omega arith | false ↦ λ p. omega arith ] refl)
        | false ↦ λ e. let out = any_held x xs false e in rw (count-one_each r xs)
            (elim (eq r x) as (λ c. eq r x ≡ c → cond c 1 0 + min 1 (count r xs) ≡ min 1 (cond c 1 0 + count r xs))
            [ true ↦ λ p. let gone : count r xs ≡ 0 = rw (reads r x p) out in omega arith | false ↦ λ p. omega arith ] refl)
      ] refl

  pub count_by_rule : (rule : ℕ → ℕ → ℕ) → rule 0 0 ≡ 0 → (xs ys : List X) (r : X) → count r (flat_map (λ q. replicate (rule (count q xs) (count q ys)) q) (one_each (xs ++ ys))) ≡ rule (count r xs) (count r ys)
  count_by_rule rule none xs ys r =
      rw (count-made (λ q. rule (count q xs) (count q ys)) r (one_each (xs ++ ys)), count-one_each r (xs ++ ys), count-append r xs ys)
      (by_cases (count r xs) (count r ys))
    where
      by_cases : (m n : ℕ) → min 1 (m + n) * rule m n ≡ rule m n
      by_cases zero zero = rw none refl
      by_cases zero (suc n) = let one : min 1 (0 + suc n) ≡ 1 = omega arith in rw one (omega arith)
      by_cases (suc m) n = let one : min 1 (suc m + n) ≡ 1 = omega arith in rw one (omega arith)
