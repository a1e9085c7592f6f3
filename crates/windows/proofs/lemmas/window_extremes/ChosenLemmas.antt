-- The first of the values in ranges is `min` or `max` of them.
use Rattle.std.proofs.Common.{◌≡◌, ◌∙◌, ◌+◌, ◌<◌, ◌≤◌, ◌||◌, Bool, true, false, not, ℕ, zero, suc, Ordering, Less, Equal, Greater, List, [], ◌∷◌, Option, Some, None, All, Contains, cond, filter, get_or, length, map, refl, sym, ap, subst, arith}
use Rattle.std.specs.Cmp.{IsTotalOrder}
use Rattle.std.specs.FinMap.{IsAntisymmetric}
use Rattle.std.specs.Ordering.{is_lt}
use Rattle.std.proofs.lemmas.Bool.{false≢true}
use Rattle.std.proofs.lemmas.Bool.Decides.{nat_tests}
use Rattle.std.proofs.lemmas.Cmp.{back_total}
use Rattle.std.proofs.lemmas.List.{get_or-map, length-map}
use Rattle.std.proofs.lemmas.List.Elements.{All-contains, All-filter, All-head, All-map, All-same, All-tail, All-weaker, Contains-get_or, filter_passes}
use Rattle.std.proofs.lemmas.List.FromFn.{get_or-range_with_len, length-range_with_len}
use Rattle.std.proofs.lemmas.List.Sorted.{Contains-permutation, IsPermutation-sym, ranks_by, sorted_far}
use Rattle.values.specs.Datum.{Datum, null}
use Rattle.values.specs.OrderLaws.{datum_cmp_total, datum_cmp-IsAntisymmetric}
use Rattle.expr.specs.operations.Operations.{is_null}
use Rattle.semantics.specs.Groups.{measure}
use Rattle.semantics.specs.Sequence.{sorted, value_at}
use Rattle.semantics.specs.Windows.{places}
use Rattle.semantics.proofs.OrderLemmas.{IsSortedBy-ascending, ascending-same}
use Rattle.windows.specs.first_values.Best.{IsBest, side_cmp}
use Rattle.windows.specs.declared.first_values.best.Side.{Side}
use Rattle.windows.specs.declared.first_values.best.Side.TheVariants.{Greatest, Least}
use Rattle.windows.specs.declared.frames.ranges.Ranges.{Ranges}
use Rattle.windows.specs.frames.Ranges.{AreInside, IsUnion}
use Rattle.windows.specs.frames.Slices.{slices}
use Rattle.windows.proofs.lemmas.frames.SliceLemmas.{chosen_slices}
use Rattle.windows.specs.window_totals.Totals.{kept}
use Rattle.windows.proofs.lemmas.window_totals.TotalLemmas.{read_at}
use Rattle.windows.specs.window_extremes.Stretches.{function_of, in_ranges, stretch}

-- ---- the first of a sorted list

module _ (cmp : Datum → Datum → Ordering) (total : IsTotalOrder cmp) (only : IsAntisymmetric cmp) where
  tied : (x y : Datum) → is_lt (cmp x y) ≡ false → is_lt (cmp y x) ≡ false → x ≡ y
  tied x y fits back = go (cmp x y) refl
    where
      go : (o : Ordering) → cmp x y ≡ o → x ≡ y
      go Less e = let h = rw e at fits in cc
      go Equal e = only x y e
      go Greater e = let h = rw (total.antisymm y x, e) at back in cc

  pub least_first : (ys : List Datum) (m : Datum) → Contains ys m → All (λ y. is_lt (cmp y m) ≡ false) ys → value_at (sorted cmp ys) 0 ≡ m
  least_first ys m has all =
      let lt : Datum → Datum → Bool = λ x y. is_lt (cmp x y) in
      let order = ranks_by total (λ (x : Datum). x) in
      let same = ascending-same lt ys in
      let there = Contains-permutation ys (sorted cmp ys) m same has in
      let some : 0 < length (sorted cmp ys) = omega (arith, there.1) in
      let first = Contains-permutation (sorted cmp ys) ys (value_at (sorted cmp ys) 0) (IsPermutation-sym ys (sorted cmp ys) same) (Contains-get_or (sorted cmp ys) 0 null some) in
      let far = sorted_far lt order (sorted cmp ys) (IsSortedBy-ascending lt order ys) 0 there.0 null (omega arith) there.1 in
      tied (value_at (sorted cmp ys) 0) m (All-contains (λ y. is_lt (cmp y m) ≡ false) ys (value_at (sorted cmp ys) 0) all first)
      (ap (λ x. lt x (value_at (sorted cmp ys) 0)) (sym (read_at (sorted cmp ys) there.0 null m there.1 ∙ there.2)) ∙ far)

side_total : (side : Side) → IsTotalOrder (side_cmp side)
side_total Least = datum_cmp_total
side_total Greatest = back_total datum_cmp_total

side_only : (side : Side) → IsAntisymmetric (side_cmp side)
side_only Least = datum_cmp-IsAntisymmetric
side_only Greatest = λ a b e. sym (datum_cmp-IsAntisymmetric b a e)

measured : (side : Side) (o : Option Datum) (ys : List Datum) → measure o (function_of side) ys ≡ Some (value_at (sorted (side_cmp side) ys) 0)
measured Least o ys = refl
measured Greatest o ys = refl

none_measured : (side : Side) (o : Option Datum) → measure o (function_of side) [] ≡ Some null
none_measured Least o = refl
none_measured Greatest o = refl

-- ---- elements that are kept

kept_contains : {X : Type 0} (p : X → Bool) (ys : List X) (y : X) → p y ≡ true → (k : ℕ) → k < length ys → get_or ys k y ≡ y → Contains (filter p ys) y
kept_contains p [] y sure k h is = absurd (omega (arith, h))
kept_contains p (x ∷ ys) y sure zero h is = let here : p x ≡ true = ap p is ∙ sure in rw here (0, omega arith, is)
kept_contains {X} p (x ∷ ys) y sure (suc k) h is =
    let later = kept_contains p ys y sure k (omega (arith, h)) is in
    elim (p x) as (λ b. Contains (cond b (x ∷ filter p ys) (filter p ys)) y) [
      | true ↦ (suc later.0, omega (arith, later.1), later.2)
      | false ↦ later
    ]

nothing_kept : (ys : List Datum) → All (λ y. is_null y ≡ true) ys → kept ys ≡ []
nothing_kept [] all = refl
nothing_kept (y ∷ ys) all =
    let none : not (is_null y) ≡ false = ap not (All-head (λ x. is_null x ≡ true) y ys all) in
    rw none (nothing_kept ys (All-tail (λ x. is_null x ≡ true) y ys all))

-- ---- places in ranges

ahead_of : (a b k : ℕ) → k < a → stretch a b k ≡ false
ahead_of a b k h = grind (arith, nat_tests, h)

behind : (a b k : ℕ) → b ≤ k → stretch a b k ≡ false
behind a b k h = grind (arith, nat_tests, h)

inside : (a b k : ℕ) → a ≤ k → k < b → stretch a b k ≡ true
inside a b k p q = grind (arith, nat_tests, p, q)

none_of_three : (x y z : Bool) → x ≡ false → y ≡ false → z ≡ false → (x || (y || z)) ≡ false
none_of_three x y z p q r = (λ i. p i || (q i || r i))

first_of_three : (x y z : Bool) → x ≡ true → (x || (y || z)) ≡ true
first_of_three x y z p = ap (λ b. b || (y || z)) p

second_of_three : (x y z : Bool) → y ≡ true → (x || (y || z)) ≡ true
second_of_three true y z p = refl
second_of_three false y z p = ap (λ b. b || z) p

third_of_three : (x y z : Bool) → z ≡ true → (x || (y || z)) ≡ true
third_of_three true y z p = refl
third_of_three false true z p = refl
third_of_three false false z p = p

module _ (r : Ranges) (n : ℕ) (u : AreInside r n) where
  pub is_union : IsUnion (in_ranges r) r n
  is_union = record {
    a = u.a;
    b = u.b;
    c = u.c;
    d = u.d;
    e = u.e;
    within = u.within;
    ahead = λ k h. none_of_three _ _ _ (ahead_of r.start r.from k h) (ahead_of r.middle r.after k (omega (arith, h, u.a, u.b))) (ahead_of r.to r.end k (omega (arith, h, u.a, u.b, u.c, u.d)));
    front = λ k p q. first_of_three (stretch r.start r.from k) (stretch r.middle r.after k) (stretch r.to r.end k) (inside r.start r.from k p q);
    gap = λ k p q. none_of_three _ _ _ (behind r.start r.from k p) (ahead_of r.middle r.after k q) (ahead_of r.to r.end k (omega (arith, q, u.c, u.d)));
    inside = λ k p q. second_of_three (stretch r.start r.from k) (stretch r.middle r.after k) (stretch r.to r.end k) (inside r.middle r.after k p q);
    gap_after = λ k p q. none_of_three _ _ _ (behind r.start r.from k (omega (arith, p, u.b, u.c))) (behind r.middle r.after k p) (ahead_of r.to r.end k q);
    back = λ k p q. third_of_three (stretch r.start r.from k) (stretch r.middle r.after k) (stretch r.to r.end k) (inside r.to r.end k p q);
    behind = λ k p q. none_of_three _ _ _ (behind r.start r.from k (omega (arith, p, u.b, u.c, u.d, u.e))) (behind r.middle r.after k (omega (arith, p, u.d, u.e))) (behind r.to r.end k p);
  }

module _ (side : Side) (xs : List Datum) (r : Ranges) (u : AreInside r (length xs)) where
  are_chosen : map (value_at xs) (filter (in_ranges r) (places xs)) ≡ slices r xs
  are_chosen = chosen_slices Datum (in_ranges r) r xs null (is_union r (length xs) u)

  -- what holds of each value in the ranges
  each_chosen : (P : Datum → Type 0) → ((k : ℕ) → in_ranges r k ≡ true → P (value_at xs k)) → All P (slices r xs)
  each_chosen P each =
      All-same P (slices r xs) (map (value_at xs) (filter (in_ranges r) (places xs))) (sym are_chosen)
      (All-map P (value_at xs) (filter (in_ranges r) (places xs))
      (All-weaker (λ k. in_ranges r k ≡ true) (λ k. P (value_at xs k)) each (filter (in_ranges r) (places xs)) (filter_passes (in_ranges r) (places xs))))

  -- a value in the ranges that isn't NULL
  chosen_kept : (p : ℕ) → p < length xs → in_ranges r p ≡ true → is_null (value_at xs p) ≡ false → Contains (kept (slices r xs)) (value_at xs p)
  chosen_kept p within in_it whole =
      let at : p < length (places xs) = omega (arith, within, length-range_with_len 0 (length xs)) in
      let same : get_or (places xs) p p ≡ p = get_or-range_with_len 0 (length xs) p p within ∙ nothing_more p in
      let place = kept_contains (in_ranges r) (places xs) p in_it p at same in
      let ps = filter (in_ranges r) (places xs) in
      let there : place.0 < length (map (value_at xs) ps) = omega (arith, place.1, length-map ps (value_at xs)) in
      let read : get_or (map (value_at xs) ps) place.0 (value_at xs p) ≡ value_at xs p = get_or-map (value_at xs) ps place.0 p (value_at xs p) place.1 ∙ ap (value_at xs) place.2 in
      subst (λ l. Contains (kept l) (value_at xs p)) are_chosen
      (kept_contains (λ v. not (is_null v)) (map (value_at xs) ps) (value_at xs p) (ap not whole) place.0 there read)
    where
      nothing_more : (p : ℕ) → 0 + p ≡ p
      nothing_more p = omega arith

  pub none_value : (o : Option Datum) → IsBest side xs (in_ranges r) None → measure o (function_of side) (kept (slices r xs)) ≡ Some null
  none_value o best = ap (measure o (function_of side)) (nothing_kept (slices r xs) (each_chosen (λ y. is_null y ≡ true) (best.none refl))) ∙ none_measured side o

  pub some_value : (o : Option Datum) (p : ℕ) → p < length xs → IsBest side xs (in_ranges r) (Some p) → measure o (function_of side) (kept (slices r xs)) ≡ Some (value_at xs p)
  some_value o p within best =
      let first = best.some p refl in
      let later = each_chosen (λ y. is_null y ≡ false → is_lt (side_cmp side y (value_at xs p)) ≡ false) first.first in
      let all = All-filter (λ v. not (is_null v)) (λ y. is_null y ≡ false → is_lt (side_cmp side y (value_at xs p)) ≡ false) (slices r xs) later in
      let passes = filter_passes (λ v. not (is_null v)) (slices r xs) in
      measured side o (kept (slices r xs))
      ∙ ap Some (least_first (side_cmp side) (side_total side) (side_only side) (kept (slices r xs)) (value_at xs p)
      (chosen_kept p within first.inside first.whole) (λ k d h. all k d h (not_true _ (passes k d h))))
    where
      not_true : (b : Bool) → not b ≡ true → b ≡ false
      not_true true e = absurd (false≢true e)
      not_true false e = refl
