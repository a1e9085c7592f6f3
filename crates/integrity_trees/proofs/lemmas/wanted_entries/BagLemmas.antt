-- Bags of different elements.
use Rattle.std.proofs.Common.{◌≡◌, zero, suc, ℤ, ◌≤◌, ◌⊎◌, ◌<ℤ◌, ◌≤ℤ◌, List, [], ◌∷◌, ◌++◌, Contains, IsPermutation, Option, Some, slice_get, length, refl, sym, subst, inl, inr, ⊎_elim, arith}
use Rattle.std.specs.List.{remove}
use Rattle.std.proofs.lemmas.List.Elements.{Contains-append_left, Contains-append_right}
use Rattle.std.proofs.lemmas.List.Sorted.{IsPermutation-refl, IsPermutation-sym, IsPermutation-trans, IsPermutation-cons, IsPermutation-remove, Contains-permutation, length_permutation}
use Rattle.std.proofs.lemmas.Int.{by_lt_z}
use Rattle.std.proofs.lemmas.Option.{slice_get_read}
use Rattle.integrity_trees.specs.wanted_entries.Bags.{Coded, IsOnce, AreIn, ArePlaced, IsStray, IsBatchOf}

module _ {X : Type 0} where
  pub in_head : (x : X) (xs : List X) → Contains (x ∷ xs) x
  in_head x xs = (0, omega arith, refl)

  pub in_tail : (x y : X) (xs : List X) → Contains xs y → Contains (x ∷ xs) y
  in_tail x y xs h = (suc h.0, omega (arith, h.1), h.2)

  pub cons_cases : (x y : X) (xs : List X) → Contains (x ∷ xs) y → (x ≡ y) ⊎ Contains xs y
  cons_cases x y xs (zero, l, e) = inl e
  cons_cases x y xs (suc k, l, e) = inr (k, omega arith, e)

  pub once_tail : (x : X) (xs : List X) → IsOnce (x ∷ xs) → IsOnce xs
  once_tail x xs once i j y at_i at_j = let e : suc i ≡ suc j = once (suc i) (suc j) y at_i at_j in omega (arith, e)

  -- the first element isn't among the others
  pub once_head : (x : X) (xs : List X) → IsOnce (x ∷ xs) → ¬ Contains xs x
  once_head x xs once h =
      let at_k : slice_get xs h.0 ≡ Some x = slice_get_read xs (length xs) h.0 x refl h.1 (sym h.2) in
      let e : 0 ≡ suc h.0 = once 0 (suc h.0) x refl at_k in
      omega (arith, e)

  pub same : (xs ys : List X) → IsOnce xs → AreIn xs ys → length ys ≤ length xs → IsPermutation xs ys
  same [] [] once all few = IsPermutation-refl []
  same [] (y ∷ ys) once all few = absurd (omega (arith, few))
  same (x ∷ xs) ys once all few =
      let at = all x (in_head x xs) in
      let moved : IsPermutation ys (x ∷ remove ys at.0) = IsPermutation-remove ys at.0 x at.1 (sym at.2) in
      let rest : AreIn xs (remove ys at.0) = λ y h. ⊎_elim
      (λ (e : x ≡ y). absurd (once_head x xs once (subst (λ (z : X). Contains xs z) (sym e) h)))
      (λ (there : Contains (remove ys at.0) y). there)
      (cons_cases x y (remove ys at.0) (Contains-permutation ys (x ∷ remove ys at.0) y moved (all y (in_tail x y xs h)))) in
      let size : length (x ∷ remove ys at.0) ≡ length ys = length_permutation ys (x ∷ remove ys at.0) moved in
      let fewer : length (remove ys at.0) ≤ length xs = omega (arith, size, few) in
      IsPermutation-trans (x ∷ xs) (x ∷ remove ys at.0) ys (IsPermutation-cons x xs (remove ys at.0) (same xs (remove ys at.0) (once_tail x xs once) rest fewer))
      (IsPermutation-sym ys (x ∷ remove ys at.0) moved)

pub stray_differs : (entries wanted batch : List Coded) (low high : Option ℤ) → IsBatchOf wanted low high batch
    → IsStray entries low high batch → ¬ IsPermutation entries wanted
stray_differs entries wanted batch low high cut stray bags =
    stray.lacks (cut stray.entry stray.within (Contains-permutation entries wanted stray.entry bags stray.is))

pub placed_more : (entries done batch : List Coded) (middle : ℤ) (low high : Option ℤ) → ArePlaced entries low (Some middle) done
    → ArePlaced entries (Some middle) high batch → ArePlaced entries low high (done ++ batch)
placed_more entries done batch middle low high before here x is within = by_lt_z middle x.key
    (λ (above : middle <ℤ x.key). Contains-append_right done batch x (here x is (above, within.1)))
    (λ (below : x.key ≤ℤ middle). Contains-append_left done batch x (before x is (within.0, below)))
