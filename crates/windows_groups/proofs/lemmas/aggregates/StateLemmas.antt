-- What is kept of the values that an aggregate took, with one value more.
use Rattle.std.proofs.Common.{◌≡◌, ◌∙◌, ◌+◌, ◌+ℤ◌, ℕ, ℤ, pos, true, false, cond, List, [], ◌∷◌, ◌++◌, length, Option, Some, None, unwrap_or, refl, sym, ap, arith, IsPermutation}
use Rattle.std.specs.Ordering.{flip_args, is_lt}
use Rattle.std.specs.declared.cmp.Ordering.{Ordering}
use Rattle.std.proofs.lemmas.Cmp.{back_total}
use Rattle.std.proofs.lemmas.Int.{ints}
use Rattle.std.proofs.lemmas.List.Sorted.{IsPermutation-append_comm}
use Rattle.values.specs.Datum.{Datum, datum_of}
use Rattle.values.specs.declared.value.Value.{Value}
use Rattle.values.specs.declared.value.Value.TheVariants.{Null, Int, Text, Blob}
use Rattle.values.specs.Order.{datum_cmp}
use Rattle.values.specs.OrderLaws.{datum_cmp_total, datum_cmp-IsAntisymmetric}
use Rattle.expr.specs.operations.Operations.{is_null}
use Rattle.semantics.specs.Groups.{number, total}
use Rattle.semantics.specs.Query.{AggregateFunction}
use Rattle.semantics.specs.Sequence.{inserted, sorted, value_at}
use Rattle.semantics.proofs.KeyLemmas.{sorted-one}
use Rattle.windows_groups.specs.aggregates.State.{counted, first_of, greatest, least, state_after, summed, taken, unless_none}

-- ---- counts and totals

length-more : (values : List Datum) (v : Datum) → length (values ++ v ∷ []) ≡ length values + 1
length-more [] v = refl
length-more (x ∷ values) v = let ih = length-more values v in omega (arith, ih)

total-more : (values : List Datum) (v : Datum) → total (values ++ v ∷ []) ≡ total values +ℤ number v
total-more [] v = omega (arith, ints)
total-more (x ∷ values) v = let ih = total-more values v in omega (arith, ints, ih)

pub counted_more : (f : AggregateFunction) (values : List Datum) (n : ℕ) (v : Datum) → counted n ≡ state_after f values
    → counted (n + 1) ≡ state_after f (values ++ v ∷ [])
counted_more AggregateFunction.count values n v is = let e : n ≡ length values = cc in ap counted (ap (λ k. k + 1) e ∙ sym (length-more values v))
counted_more AggregateFunction.sum values n v is = cc
counted_more AggregateFunction.min values n v is = cc
counted_more AggregateFunction.max values n v is = cc

pub summed_more : (f : AggregateFunction) (values : List Datum) (sum : Option ℤ) (v : Datum) → summed sum ≡ state_after f values
    → summed (Some (unwrap_or sum (pos 0) +ℤ number v)) ≡ state_after f (values ++ v ∷ [])
summed_more AggregateFunction.sum [] sum v is =
    let e : sum ≡ None = cc in
    let n : pos 0 +ℤ number v ≡ number v +ℤ pos 0 = omega (arith, ints) in
    ap (λ t. summed (Some t)) (ap (λ s. unwrap_or s (pos 0) +ℤ number v) e ∙ n)
summed_more AggregateFunction.sum (x ∷ values) sum v is =
    let e : sum ≡ Some (total (x ∷ values)) = cc in
    ap (λ t. summed (Some t)) (ap (λ s. unwrap_or s (pos 0) +ℤ number v) e ∙ sym (total-more (x ∷ values) v))
summed_more AggregateFunction.count values sum v is = cc
summed_more AggregateFunction.min values sum v is = cc
summed_more AggregateFunction.max values sum v is = cc

-- ---- the first in an order

-- the value that is put into a list in order comes first, or what came first
first_inserted : (cmp : Datum → Datum → Ordering) (v y : Datum) (ys : List Datum)
    → value_at (inserted (λ a b. is_lt (cmp a b)) v (y ∷ ys)) 0 ≡ first_of cmp (Some y) v
first_inserted cmp v y ys =
    elim (is_lt (cmp y v)) as (λ b. value_at (cond b (y ∷ inserted (λ a b. is_lt (cmp a b)) v ys) (v ∷ y ∷ ys)) 0 ≡ cond b y v) [ true ↦ refl | false ↦ refl ]

first_of_sorted : (cmp : Datum → Datum → Ordering) (v x : Datum) (ys : List Datum)
    → value_at (inserted (λ a b. is_lt (cmp a b)) v (inserted (λ a b. is_lt (cmp a b)) x ys)) 0
    ≡ first_of cmp (Some (value_at (inserted (λ a b. is_lt (cmp a b)) x ys) 0)) v
first_of_sorted cmp v x [] = first_inserted cmp v x []
first_of_sorted cmp v x (y ∷ ys) =
    elim (is_lt (cmp y x)) as (λ b.
    value_at (inserted (λ a b. is_lt (cmp a b)) v (cond b (y ∷ inserted (λ a b. is_lt (cmp a b)) x ys) (x ∷ y ∷ ys))) 0
    ≡ first_of cmp (Some (value_at (cond b (y ∷ inserted (λ a b. is_lt (cmp a b)) x ys) (x ∷ y ∷ ys)) 0)) v) [
      | true ↦ first_inserted cmp v y (inserted (λ a b. is_lt (cmp a b)) x ys)
      | false ↦ first_inserted cmp v x (y ∷ ys)
    ]

-- a value more comes to the front of a bag
moved : (values : List Datum) (v : Datum) → IsPermutation (values ++ v ∷ []) (v ∷ values)
moved values v = IsPermutation-append_comm values (v ∷ [])

least_once : (values : List Datum) (best : Option Datum) (v : Datum) → best ≡ unless_none values (value_at (sorted datum_cmp values) 0)
    → Some (first_of datum_cmp best v) ≡ unless_none (values ++ v ∷ []) (value_at (sorted datum_cmp (values ++ v ∷ [])) 0)
least_once [] best v is = ap (λ b. Some (first_of datum_cmp b v)) is
least_once (x ∷ values) best v is =
    ap Some (ap (λ b. first_of datum_cmp b v) is ∙ sym (first_of_sorted datum_cmp v x (sorted datum_cmp values))
    ∙ ap (λ vs. value_at vs 0) (sym (sorted-one datum_cmp datum_cmp_total datum_cmp-IsAntisymmetric (x ∷ values ++ v ∷ []) (v ∷ x ∷ values) (moved (x ∷ values) v))))

greatest_once : (values : List Datum) (best : Option Datum) (v : Datum) → best ≡ unless_none values (value_at (sorted (flip_args datum_cmp) values) 0)
    → Some (first_of (flip_args datum_cmp) best v) ≡ unless_none (values ++ v ∷ []) (value_at (sorted (flip_args datum_cmp) (values ++ v ∷ [])) 0)
greatest_once [] best v is = ap (λ b. Some (first_of (flip_args datum_cmp) b v)) is
greatest_once (x ∷ values) best v is =
    ap Some (ap (λ b. first_of (flip_args datum_cmp) b v) is ∙ sym (first_of_sorted (flip_args datum_cmp) v x (sorted (flip_args datum_cmp) values))
    ∙ ap (λ vs. value_at vs 0) (sym (sorted-one (flip_args datum_cmp) (back_total datum_cmp_total) (λ a b e. sym (datum_cmp-IsAntisymmetric b a e))
    (x ∷ values ++ v ∷ []) (v ∷ x ∷ values) (moved (x ∷ values) v))))

pub least_more : (f : AggregateFunction) (values : List Datum) (best : Option Datum) (v : Datum) → least best ≡ state_after f values
    → least (Some (first_of datum_cmp best v)) ≡ state_after f (values ++ v ∷ [])
least_more AggregateFunction.min values best v is = ap least (least_once values best v cc)
least_more AggregateFunction.count values best v is = cc
least_more AggregateFunction.sum values best v is = cc
least_more AggregateFunction.max values best v is = cc

pub greatest_more : (f : AggregateFunction) (values : List Datum) (best : Option Datum) (v : Datum) → greatest best ≡ state_after f values
    → greatest (Some (first_of (flip_args datum_cmp) best v)) ≡ state_after f (values ++ v ∷ [])
greatest_more AggregateFunction.max values best v is = ap greatest (greatest_once values best v cc)
greatest_more AggregateFunction.count values best v is = cc
greatest_more AggregateFunction.sum values best v is = cc
greatest_more AggregateFunction.min values best v is = cc

-- ---- NULL

pub taken_whole : (value : Value) → (value ≡ Null → ⊥) → taken (datum_of value) ≡ datum_of value ∷ []
unfolding is_null
taken_whole Null whole = absurd (whole refl)
taken_whole (Int n) whole = refl
taken_whole (Text s) whole = refl
taken_whole (Blob b) whole = refl
