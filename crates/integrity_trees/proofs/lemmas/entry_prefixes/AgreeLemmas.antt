-- Two entries that agree in their first values.
use Rattle.std.proofs.Common.{◌≡◌, ◌≢◌, ◌<◌, ◌≤◌, ◌↔◌, ℕ, zero, suc, Bool, true, false, IsTrue, [], ◌∷◌, None, Some, slice_get, take, refl, sym, ◌∙◌, ap, arith}
use Rattle.std.proofs.lemmas.Cmp.{tied_itself}
use Rattle.std.specs.Ordering.{is_eq}
use Rattle.std.specs.declared.cmp.Ordering.{Ordering}
use Rattle.std.specs.declared.cmp.Ordering.TheVariants.{Less, Equal, Greater}
use Rattle.values.specs.Datum.{Datum, null}
use Rattle.values.specs.Order.{datum_cmp}
use Rattle.values.specs.OrderLaws.{datum_cmp_total, datum_cmp-IsAntisymmetric}
use Rattle.values.specs.Row.{Row}
use Rattle.integrity_trees.specs.wanted_entries.Unique.{Agree, HasNoNull}

taken : (n at : ℕ) (xs : Row) → at < n → slice_get (take n xs) at ≡ slice_get xs at
taken zero at xs less = absurd (omega (arith, less))
taken (suc n) at [] less = refl
taken (suc n) zero (x ∷ xs) less = refl
taken (suc n) (suc at) (x ∷ xs) less = taken n at xs (omega (arith, less))

taken_within : (n at : ℕ) (xs : Row) (x : Datum) → slice_get (take n xs) at ≡ Some x → at < n
taken_within zero at xs x e = let f : None ≡ Some x = e in cc
taken_within (suc n) at [] x e = let f : None ≡ Some x = e in cc
taken_within (suc n) zero (y ∷ xs) x e = omega arith
taken_within (suc n) (suc at) (y ∷ xs) x e = let less = taken_within n at xs x e in omega (arith, less)

same_taken : (n : ℕ) (xs ys : Row) → ((at : ℕ) → at < n → slice_get xs at ≡ slice_get ys at) → take n xs ≡ take n ys
same_taken zero xs ys each = refl
same_taken (suc n) [] [] each = refl
same_taken (suc n) [] (y ∷ ys) each = let e : None ≡ Some y = each 0 (omega arith) in cc
same_taken (suc n) (x ∷ xs) [] each = let e : Some x ≡ None = each 0 (omega arith) in cc
same_taken (suc n) (x ∷ xs) (y ∷ ys) each =
    let e : Some x ≡ Some y = each 0 (omega arith) in
    let first : x ≡ y = cc in
    let rest : take n xs ≡ take n ys = same_taken n xs ys (λ at less. each (suc at) (omega (arith, less))) in
    λ k. first k ∷ rest k

module _ (one other : Row) (width : ℕ) where
  pub agree_of : ((at : ℕ) → at < width → slice_get one at ≡ slice_get other at) → Agree width one other
  agree_of each = same_taken width one other each

  pub agree_at : Agree width one other → (at : ℕ) → at < width → slice_get one at ≡ slice_get other at
  agree_at agree at less = sym (taken width at one less) ∙ ap (λ (r : Row). slice_get r at) agree ∙ taken width at other less

  -- who agree in more values agree in fewer
  pub agree_fewer : (fewer : ℕ) → fewer ≤ width → Agree width one other → Agree fewer one other
  agree_fewer fewer few agree = same_taken fewer one other (λ at less. agree_at agree at (omega (arith, few, less)))

module _ (entry : Row) (width : ℕ) where
  pub full_of : ((at : ℕ) → at < width → slice_get entry at ≢ Some null) → HasNoNull (take width entry)
  full_of each at e = let less = taken_within width at entry null e in each at less (sym (taken width at entry less) ∙ e)

  pub full_at : HasNoNull (take width entry) → (at : ℕ) → at < width → slice_get entry at ≢ Some null
  full_at full at less = λ e. full at (taken width at entry less ∙ e)

equal_order : (o : Ordering) → IsTrue (is_eq o) → o ≡ Equal
equal_order Less t = let e : false ≡ true = t in cc
equal_order Equal t = refl
equal_order Greater t = let e : false ≡ true = t in cc

-- values are the same where they are compared as equal
pub equality : (x y : Datum) (order : Ordering) (t : Bool) → order ≡ datum_cmp x y → t ≡ is_eq order → IsTrue t ↔ (x ≡ y)
equality x y order t order_is t_is = (
  λ true_is. datum_cmp-IsAntisymmetric x y (sym order_is ∙ equal_order order (sym t_is ∙ true_is)),
  λ same. t_is ∙ ap is_eq (order_is ∙ ap (λ (z : Datum). datum_cmp x z) (sym same) ∙ tied_itself datum_cmp_total x),
)

-- what two rows that have the same at a place have there
pub same_there : (one other : Row) (at : ℕ) (x y : Datum) → slice_get one at ≡ Some x → slice_get other at ≡ Some y
    → slice_get one at ≡ slice_get other at → x ≡ y
same_there one other at x y at_x at_y same = let e : Some x ≡ Some y = sym at_x ∙ same ∙ at_y in cc
