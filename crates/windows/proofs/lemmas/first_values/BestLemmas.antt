-- The first of two sets of places.
use Rattle.std.proofs.Common.{◌≡◌, ◌∙◌, ◌<◌, ◌||◌, ◌==◌, ◌⊎◌, inl, inr, Bool, true, false, ℕ, zero, suc, Ordering, Less, Equal, Greater, List, [], ◌∷◌, Some, None, get_or, length, map, refl, sym, ap, subst, arith}
use Rattle.std.proofs.lemmas.Bool.{false≢true}
use Rattle.std.proofs.lemmas.Bool.Decides.{nat_tests}
use Rattle.std.proofs.lemmas.Cmp.{back_total}
use Rattle.std.specs.Cmp.{IsTotalOrder, tied_itself}
use Rattle.std.specs.Ordering.{is_lt, ordering_reverse}
use Rattle.values.specs.Datum.{Datum, datum_of, null}
use Rattle.values.specs.declared.value.Value.{Value}
use Rattle.values.specs.declared.value.Value.TheVariants.{Null, Int, Text, Blob}
use Rattle.values.specs.OrderLaws.{datum_cmp_total}
use Rattle.expr.specs.operations.Operations.{is_null}
use Rattle.semantics.specs.Sequence.{value_at}
use Rattle.windows.specs.declared.first_values.best.Side.{Side}
use Rattle.windows.specs.declared.first_values.best.Side.TheVariants.{Least, Greatest}
use Rattle.windows.specs.first_values.Best.{IsBest, IsFirst, side_cmp}

side_total : (side : Side) → IsTotalOrder (side_cmp side)
side_total Least = datum_cmp_total
side_total Greatest = back_total datum_cmp_total

either : (a b : Bool) → (a || b) ≡ true → (a ≡ true) ⊎ (b ≡ true)
either true b e = inl refl
either false b e = inr e

left : (a b : Bool) → a ≡ true → (a || b) ≡ true
left true b e = refl
left false b e = absurd (false≢true e)

right : (a b : Bool) → b ≡ true → (a || b) ≡ true
right true b e = refl
right false b e = e

module _ {K : Type 0} (R : K → K → Ordering) (o : IsTotalOrder R) where
  is_less : (x : Ordering) → is_lt x ≡ true → x ≡ Less
  is_less Less p = refl
  is_less Equal p = absurd cc
  is_less Greater p = absurd cc

  -- x is not before p, and q is before p
  not_before : (c : Ordering) (x p q : K) → R x q ≡ c → is_lt (R x p) ≡ false → is_lt (R q p) ≡ true → is_lt c ≡ false
  not_before Less x p q is late less = absurd (false≢true (sym late ∙ ap is_lt (o.trans x q p is (is_less (R q p) less))))
  not_before Equal x p q is late less = refl
  not_before Greater x p q is late less = refl

  by : (d : Ordering) (x p q : K) → R x q ≡ d → R x p ≡ Less → is_lt (R x q) ≡ false → is_lt (R q p) ≡ false → is_lt Less ≡ false
  by Less x p q e is late not_less = absurd (false≢true (sym late ∙ ap is_lt e))
  by Equal x p q e is late not_less = absurd (false≢true (sym not_less ∙ ap is_lt (sym (o.congr x q p e) ∙ is)))
  by Greater x p q e is late not_less = absurd (false≢true (sym not_less ∙ ap is_lt (o.trans q x p (o.antisymm q x ∙ ap ordering_reverse e) is)))

  -- x is not before q, and q is not before p
  not_before_either : (c : Ordering) (x p q : K) → R x p ≡ c → is_lt (R x q) ≡ false → is_lt (R q p) ≡ false → is_lt c ≡ false
  not_before_either Less x p q is late not_less = by (R x q) x p q refl is late not_less
  not_before_either Equal x p q is late not_less = refl
  not_before_either Greater x p q is late not_less = refl

module _ (side : Side) (xs : List Datum) where
  best_of : (S : ℕ → Bool) (p : ℕ) → IsFirst side xs S p → IsBest side xs S (Some p)
  best_of S p f = record { none = λ e. absurd (cc); some = λ q e. let same : p ≡ q = cc in subst (IsFirst side xs S) same f }

  module _ (S T : ℕ → Bool) where
    pub second_better : (p q : ℕ) → IsBest side xs S (Some p) → IsBest side xs T (Some q) → is_lt (side_cmp side (value_at xs q) (value_at xs p)) ≡ true → IsBest side xs (λ k. S k || T k) (Some q)
    second_better p q f g less =
        let a = f.some p refl in
        let b = g.some q refl in
        best_of (λ k. S k || T k) q (record {
          inside = right (S q) (T q) b.inside;
          whole = b.whole;
          first = λ i h whole. elim (either (S i) (T i) h) [
            | inl s ↦ not_before (side_cmp side) (side_total side) _ (value_at xs i) (value_at xs p) (value_at xs q) refl (a.first i s whole) less
            | inr t ↦ b.first i t whole
          ];
        })

    pub first_better : (p q : ℕ) → IsBest side xs S (Some p) → IsBest side xs T (Some q) → is_lt (side_cmp side (value_at xs q) (value_at xs p)) ≡ false → IsBest side xs (λ k. S k || T k) (Some p)
    first_better p q f g not_less =
        let a = f.some p refl in
        let b = g.some q refl in
        best_of (λ k. S k || T k) p (record {
          inside = left (S p) (T p) a.inside;
          whole = a.whole;
          first = λ i h whole. elim (either (S i) (T i) h) [
            | inl s ↦ a.first i s whole
            | inr t ↦ not_before_either (side_cmp side) (side_total side) _ (value_at xs i) (value_at xs p) (value_at xs q) refl (b.first i t whole) not_less
          ];
        })

-- ---- of one place

same_place : (k at : ℕ) → (k == at) ≡ true → at ≡ k
same_place k at e = grind (arith, nat_tests, e)

itself_place : (at : ℕ) → (at == at) ≡ true
itself_place at = grind (arith, nat_tests)

datum_at : (values : List Value) (i : ℕ) (v : Value) → i < length values → value_at (map datum_of values) i ≡ datum_of (get_or values i v)
datum_at [] i v h = absurd (omega (arith, h))
datum_at (x ∷ values) zero v h = refl
datum_at (x ∷ values) (suc i) v h = datum_at values i v (omega (arith, h))

not_null : (v : Value) → (v ≡ Null → ⊥) → is_null (datum_of v) ≡ false
unfolding is_null
not_null Null not = absurd (not refl)
not_null (Int n) not = refl
not_null (Text s) not = refl
not_null (Blob b) not = refl

is_null_there : is_null null ≡ true
unfolding is_null
is_null_there = refl

module _ (side : Side) (values : List Value) (at : ℕ) (within : at < length values) (v : Value) (is : v ≡ get_or values at v) where
  here : value_at (map datum_of values) at ≡ datum_of v
  here = datum_at values at v within ∙ ap datum_of (sym is)

  pub one_null : v ≡ Null → IsBest side (map datum_of values) (λ k. k == at) None
  one_null none = record {
    none = λ e i h. subst (λ k. is_null (value_at (map datum_of values) k) ≡ true) (same_place i at h) (ap is_null (here ∙ ap datum_of none) ∙ is_null_there);
    some = λ p e. absurd (cc);
  }

  pub one_whole : (v ≡ Null → ⊥) → IsBest side (map datum_of values) (λ k. k == at) (Some at)
  one_whole not = best_of side (map datum_of values) (λ k. k == at) at (record {
    inside = itself_place at;
    whole = ap is_null here ∙ not_null v not;
    first = λ i h whole. subst (λ k. is_lt (side_cmp side (value_at (map datum_of values) k) (value_at (map datum_of values) at)) ≡ false) (same_place i at h)
        (ap is_lt (tied_itself (side_total side) (value_at (map datum_of values) at)));
  })
