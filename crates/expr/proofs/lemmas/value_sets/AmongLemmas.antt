-- A value that is searched among others by halves.
use Rattle.std.proofs.Common.{◌≡◌, ◌≢◌, ◌∙◌, ◌<◌, ◌≤◌, ◌⊎◌, true, false, ℕ, Ordering, Less, Equal, Greater, Contains, List, Ok, Err, Result, get_or, is_eq, length, refl, sym, ap, inl, inr, subst, arith}
use Rattle.std.proofs.lemmas.Bool.{cases_lt}
use Rattle.std.proofs.lemmas.Cmp.{tied_itself}
use Rattle.std.proofs.lemmas.List.Elements.{All-from_get_or}
use Rattle.std.proofs.lemmas.List.Folds.{list_any_at, list_any_none}
use Rattle.std.proofs.lemmas.List.Sorted.{searchable_from_sorted}
use Rattle.std.proofs.lemmas.List.{get_or_past}
use Rattle.std.specs.List.Sorted.{IsBinarySearchResult, IsPartitionPoint}
use Rattle.std.specs.Ordering.{ordering_reverse}
use Rattle.std.specs.Result.{is_ok}
use Rattle.values.specs.Datum.{Datum, null}
use Rattle.values.specs.Order.{datum_cmp}
use Rattle.values.specs.OrderLaws.{datum_cmp-IsAntisymmetric, datum_cmp_total}
use Rattle.expr.specs.value_sets.Order.{IsOrderOf, is_among, value_at}

pub true_false : true ≡ false → ⊥
true_false e = cc

is_tie : (r : Ordering) → is_eq r ≡ true → r ≡ Equal
is_tie Less e = absurd (true_false (sym e))
is_tie Equal e = refl
is_tie Greater e = absurd (true_false (sym e))

pub is_same : (x y : Datum) → is_eq (datum_cmp x y) ≡ true → x ≡ y
is_same x y e = datum_cmp-IsAntisymmetric x y (is_tie (datum_cmp x y) e)

same_too : (x v : Datum) → datum_cmp v x ≡ Equal → is_eq (datum_cmp x v) ≡ true
same_too x v tie =
    ap is_eq (ap (datum_cmp x) (datum_cmp-IsAntisymmetric v x tie) ∙ tied_itself datum_cmp_total x)

pub reversed : (r : Ordering) → ((r ≡ Less) ⊎ (r ≡ Greater)) → is_eq (ordering_reverse r) ≡ false
reversed r (inl e) = ap (λ o. is_eq (ordering_reverse o)) e
reversed r (inr e) = ap (λ o. is_eq (ordering_reverse o)) e

other_too : (x v : Datum) → ((datum_cmp v x ≡ Less) ⊎ (datum_cmp v x ≡ Greater)) → is_eq (datum_cmp x v) ≡ false
other_too x v differs = ap is_eq (datum_cmp_total.antisymm x v) ∙ reversed (datum_cmp v x) differs

module _ (values : List Datum) (x : Datum) (known : x ≢ null) where
  -- a place with the value is one of the list's, since NULL stands past its end
  stands_within : (at : ℕ) → value_at values at ≡ x → (at < length values) ⊎ (length values ≤ at) → at < length values
  stands_within at here (inl inside) = inside
  stands_within at here (inr past) = absurd (known (sym here ∙ get_or_past values at null past))

  found_at : (at : ℕ) → datum_cmp (value_at values at) x ≡ Equal → is_among x values ≡ true
  found_at at tie =
      let inside = stands_within at (datum_cmp-IsAntisymmetric (value_at values at) x tie) (cases_lt at (length values)) in
      list_any_at (λ v. is_eq (datum_cmp x v)) values at null inside (same_too x (value_at values at) tie)

  module _ (order : List ℕ) (is : IsOrderOf values order) where
    side : (cut : ℕ) → IsPartitionPoint (λ at. datum_cmp (value_at values at) x ≡ Less) (λ at. datum_cmp (value_at values at) x ≡ Greater) order cut
        → (at j : ℕ) → j < length order → get_or order j at ≡ at → (j < cut) ⊎ (cut ≤ j) → is_eq (datum_cmp x (value_at values at)) ≡ false
    side cut parts at j inside here (inl before) =
        other_too x (value_at values at) (inl (subst (λ n. datum_cmp (value_at values n) x ≡ Less) here (parts.0 j at (omega arith) before)))
    side cut parts at j inside here (inr behind) =
        other_too x (value_at values at) (inr (subst (λ n. datum_cmp (value_at values n) x ≡ Greater) here (parts.1 j at behind inside)))

    none_at : (cut : ℕ) → IsPartitionPoint (λ at. datum_cmp (value_at values at) x ≡ Less) (λ at. datum_cmp (value_at values at) x ≡ Greater) order cut
        → is_among x values ≡ false
    none_at cut parts =
        list_any_none (λ v. is_eq (datum_cmp x v)) values (All-from_get_or (λ v. is_eq (datum_cmp x v) ≡ false) values null (λ at inside.
        let held : Contains order at = is.all at inside in
        side cut parts at held.0 held.1 held.2 (cases_lt held.0 cut)))

    -- the search by halves tells whether it is one of them
    pub searched : (r : Result ℕ ℕ) → IsBinarySearchResult (λ at. datum_cmp (value_at values at) x) order r → is_ok r ≡ is_among x values
    searched (Ok i) found = sym (found_at (get_or order i 0) (found 0))
    searched (Err cut) parts = sym (none_at cut (parts (searchable_from_sorted datum_cmp_total (value_at values) order x is.ascends)))
