-- Groups, aggregates and windows over the same bags.
use Rattle.std.proofs.Common.{◌≡◌, ℕ, ◌+◌, true, false, cond, ⊎_elim, ℤ, pos, ◌+ℤ◌, not, List, [], ◌∷◌, ◌++◌, map, length, Option, Some, None, refl, sym, ap, subst, ◌∙◌, arith, IsPermutation, unwrap_or}
use Rattle.std.specs.Ordering.{flip_args, is_lt}
use Rattle.std.proofs.Math.IntN.{+ℤ_assoc, +ℤ_comm}
use Rattle.std.proofs.lemmas.Cmp.{back_total}
use Rattle.std.proofs.lemmas.Bool.{cases_Bool}
use Rattle.std.proofs.lemmas.List.Sorted.{IsPermutation-cons, IsPermutation-middle, IsPermutation-refl, IsPermutation-trans, IsPermutation-map, length_permutation}
use Rattle.values.specs.Datum.{Datum, null}
use Rattle.values.specs.Order.{datum_cmp}
use Rattle.values.specs.OrderLaws.{datum_cmp_total, datum_cmp-IsAntisymmetric}
use Rattle.expr.specs.operations.Operations.{is_null, settle}
use Rattle.expr.specs.Term.{Term}
use Rattle.semantics.specs.Query.{Aggregate, AggregateFunction, Grouping, Window, WindowCall}
use Rattle.values.specs.Row.{Row}
use Rattle.semantics.specs.Sequence.{value_at}
use Rattle.semantics.specs.Times.{same_row, times}
use Rattle.semantics.specs.Valuation.{Valuation, holds_on, term_values}
use Rattle.semantics.specs.Groups.{aggregate_result, aggregate_value, group_keys, group_of, group_row, group_rows, grouped, groups, measure, number, taken_values, total, Group}
use Rattle.semantics.specs.Windows.{call_result, call_value, numbered, numbered_after, partition_of, place_of, sequence, sequence_cmp, window_result, windowed}
use Rattle.expr.proofs.BagLemmas.{along_permutation, IsPermutation-filter}
use Rattle.semantics.proofs.KeyLemmas.{sequence-one, sorted-one, values-one}
use Rattle.semantics.proofs.TimesLemmas.{IsPermutation-once, same_row-reads, same_row-turned}

pub map_agree : {A B : Type 0} (f g : A → B) → ((x : A) → f x ≡ g x) → (xs : List A) → map f xs ≡ map g xs
map_agree f g same [] = refl
map_agree f g same (x ∷ xs) = rw (same x, map_agree f g same xs) refl

pub map-map : {A B C : Type 0} (f : B → C) (g : A → B) (xs : List A) → map f (map g xs) ≡ map (λ x. f (g x)) xs
map-map f g [] = refl
map-map f g (x ∷ xs) = rw (map-map f g xs) refl

turned : (a b c : ℤ) → a +ℤ (b +ℤ c) ≡ b +ℤ (a +ℤ c)
turned a b c = sym (+ℤ_assoc a b c) ∙ ap (λ s. s +ℤ c) (+ℤ_comm a b) ∙ +ℤ_assoc b a c

total-same : (xs ys : List Datum) → IsPermutation xs ys → total xs ≡ total ys
total-same = along_permutation (λ xs ys. total xs ≡ total ys)
    (λ xs. refl) (λ x xs ys h. ap (λ s. number x +ℤ s) h) (λ x y xs. turned (number x) (number y) (total xs)) (λ xs ys zs p q. p ∙ q)

sum-same : (o : Option Datum) (xs ys : List Datum) → length ys ≡ length xs → total xs ≡ total ys
    → measure o AggregateFunction.sum xs ≡ measure o AggregateFunction.sum ys
sum-same o [] [] long same = refl
sum-same o [] (y ∷ ys) long same = absurd (omega (arith, long))
sum-same o (x ∷ xs) [] long same = absurd (omega (arith, long))
sum-same o (x ∷ xs) (y ∷ ys) long same = ap (settle o) same

-- an aggregate of a bag has one value
pub measure-same : (o : Option Datum) (f : AggregateFunction) (xs ys : List Datum) → IsPermutation xs ys → measure o f xs ≡ measure o f ys
measure-same o AggregateFunction.count xs ys p = ap (λ n. settle o (pos n)) (sym (length_permutation xs ys p))
measure-same o AggregateFunction.sum xs ys p = sum-same o xs ys (length_permutation xs ys p) (total-same xs ys p)
measure-same o AggregateFunction.min xs ys p = ap (λ vs. Some (value_at vs 0)) (values-one xs ys p)
measure-same o AggregateFunction.max xs ys p =
    ap (λ vs. Some (value_at vs 0)) (sorted-one (flip_args datum_cmp) (back_total datum_cmp_total) (λ x y e. sym (datum_cmp-IsAntisymmetric y x e)) xs ys p)

module _ (value : Valuation) where
  pub taken_values-same : (a : Aggregate) (xs ys : List Row) → IsPermutation xs ys → IsPermutation (taken_values value a xs) (taken_values value a ys)
  taken_values-same a xs ys p = IsPermutation-filter (λ v. not (is_null v)) _ _ (IsPermutation-map (value a.argument) xs ys p)

  pub aggregate_result-same : (o : Option Datum) (a : Aggregate) (xs ys : List Row) → IsPermutation xs ys → aggregate_result value o a xs ≡ aggregate_result value o a ys
  aggregate_result-same o a xs ys p = measure-same o a.function _ _ (taken_values-same a xs ys p)

  pub group_keys-same : (terms : List Term) (xs ys : List Row) → IsPermutation xs ys → IsPermutation (group_keys value terms xs) (group_keys value terms ys)
  group_keys-same [] xs ys p = IsPermutation-refl _
  group_keys-same (term ∷ terms) xs ys p = IsPermutation-once _ _ (IsPermutation-map (term_values value (term ∷ terms)) xs ys p)

  abbrev members : List Term → List Row → Row → List Row
  members terms rows key = (group_of value terms rows key).members

  members-same : (terms : List Term) (xs ys : List Row) (key : Row) → IsPermutation xs ys → IsPermutation (members terms xs key) (members terms ys key)
  members-same terms xs ys key p = IsPermutation-filter (λ row. same_row key (term_values value terms row)) xs ys p

  -- what depends on a group's key and the bag of its members alone gives one bag
  pub groups-same : {B : Type 0} (f : Group → B) → ((key : Row) (xs ys : List Row) → IsPermutation xs ys → f (record { key = key; members = xs }) ≡ f (record { key = key; members = ys }))
      → (terms : List Term) (xs ys : List Row) → IsPermutation xs ys → IsPermutation (map f (groups value terms xs)) (map f (groups value terms ys))
  groups-same f one terms xs ys p =
      rw (
        map-map f (group_of value terms xs) (group_keys value terms xs),
        map-map f (group_of value terms ys) (group_keys value terms ys),
        map_agree (λ key. f (group_of value terms xs key)) (λ key. f (group_of value terms ys key)) (λ key. one key _ _ (members-same terms xs ys key p)) (group_keys value terms xs),
      )
      (IsPermutation-map (λ key. f (group_of value terms ys key)) _ _ (group_keys-same terms xs ys p))

  module _ (w : Datum) where
    group_row-same : (aggregates : List Aggregate) (key : Row) (xs ys : List Row) → IsPermutation xs ys
        → group_row value w aggregates (record { key = key; members = xs }) ≡ group_row value w aggregates (record { key = key; members = ys })
    group_row-same aggregates key xs ys p = ap (λ values. key ++ values)
        (map_agree (aggregate_value value w xs) (aggregate_value value w ys) (λ a. ap (λ m. unwrap_or m null) (aggregate_result-same (Some w) a xs ys p)) aggregates)

    pub group_rows-same : (g : Grouping) (xs ys : List Row) → IsPermutation xs ys → IsPermutation (group_rows value w g xs) (group_rows value w g ys)
    group_rows-same g xs ys p = groups-same (group_row value w g.aggregates) (group_row-same g.aggregates) g.by xs ys p

    pub grouped-same : (g : Option Grouping) (xs ys : List Row) → IsPermutation xs ys → IsPermutation (grouped value w g xs) (grouped value w g ys)
    grouped-same None xs ys p = p
    grouped-same (Some g) xs ys p = IsPermutation-filter (holds_on value g.having) _ _ (group_rows-same g xs ys p)

-- ---- windows

-- what stands before a list counts by how often it holds each row
numbered_after-like : (before others rows : List Row) → ((row : Row) → times row before ≡ times row others) → numbered_after before rows ≡ numbered_after others rows
numbered_after-like before others [] alike = refl
numbered_after-like before others (row ∷ rows) alike =
    rw (alike row) (ap (λ rest. (row, times row others) ∷ rest)
    (numbered_after-like (row ∷ before) (row ∷ others) rows (λ other. ap (λ n. cond (same_row other row) 1 0 + n) (alike other))))

turned_before : (x y : Row) (before rows : List Row) → numbered_after (y ∷ x ∷ before) rows ≡ numbered_after (x ∷ y ∷ before) rows
turned_before x y before rows = numbered_after-like (y ∷ x ∷ before) (x ∷ y ∷ before) rows (λ row. omega arith)

none_more : (n : ℕ) → 0 + n ≡ n
none_more n = omega arith

numbered-turned : (x y : Row) (before rows : List Row) → IsPermutation (numbered_after before (x ∷ y ∷ rows)) (numbered_after before (y ∷ x ∷ rows))
numbered-turned x y before rows = ⊎_elim
    (λ (equal : same_row x y ≡ true). subst (λ z. IsPermutation (numbered_after before (x ∷ z ∷ rows)) (numbered_after before (z ∷ x ∷ rows))) (same_row-reads x y equal) (IsPermutation-refl _))
    (λ (apart : same_row x y ≡ false). rw (apart, same_row-turned x y ∙ apart, none_more (times x before), none_more (times y before), turned_before x y before rows)
    (IsPermutation-middle ((x, times x before) ∷ []) (y, times y before) (numbered_after (x ∷ y ∷ before) rows)))
    (cases_Bool (same_row x y))

-- the bag of numbered rows is that of the bag
numbered_after-same : (xs ys : List Row) → IsPermutation xs ys → (before : List Row) → IsPermutation (numbered_after before xs) (numbered_after before ys)
numbered_after-same = along_permutation (λ xs ys. (before : List Row) → IsPermutation (numbered_after before xs) (numbered_after before ys))
    (λ xs before. IsPermutation-refl _)
    (λ x xs ys h before. IsPermutation-cons _ _ _ (h (x ∷ before)))
    (λ x y xs before. numbered-turned x y before xs)
    (λ xs ys zs p q before. IsPermutation-trans _ _ _ (p before) (q before))

pub numbered-same : (xs ys : List Row) → IsPermutation xs ys → IsPermutation (numbered xs) (numbered ys)
numbered-same xs ys p = numbered_after-same xs ys p []

module _ (value : Valuation) where
  partition_of-same : (window : Window) (xs ys : List Row) (row : Row) → IsPermutation xs ys → IsPermutation (partition_of value window xs row) (partition_of value window ys row)
  partition_of-same window xs ys row p = IsPermutation-filter (λ other. same_row (term_values value window.partition row) (term_values value window.partition other)) xs ys p

  place_of-same : (window : Window) (xs ys : List Row) (r : Row × ℕ) → IsPermutation xs ys → place_of value window xs r ≡ place_of value window ys r
  place_of-same window xs ys r p = ap (λ n. n + r.1)
      (sym (length_permutation _ _ (IsPermutation-filter (λ other. is_lt (sequence_cmp value window.order other r.0)) _ _ (partition_of-same window xs ys r.0 p))))

  -- the value of a window call for a row depends on the bag of rows alone
  pub call_result-same : (o : Option Datum) (call : WindowCall) (xs ys : List Row) (r : Row × ℕ) → IsPermutation xs ys → call_result value o call xs r ≡ call_result value o call ys r
  call_result-same o call xs ys r p =
      ap (λ s. window_result value o call.window call.function s (place_of value call.window xs r)) (sequence-one value call.window.order _ _ (partition_of-same call.window xs ys r.0 p))
      ∙ ap (window_result value o call.window call.function (sequence value call.window.order (partition_of value call.window ys r.0))) (place_of-same call.window xs ys r p)

  pub windowed-same : (w : Datum) (calls : List WindowCall) (xs ys : List Row) → IsPermutation xs ys → IsPermutation (windowed value w calls xs) (windowed value w calls ys)
  windowed-same w calls xs ys p =
      rw (map_agree (λ (r : Row × ℕ). r.0 ++ map (call_value value w xs r) calls) (λ (r : Row × ℕ). r.0 ++ map (call_value value w ys r) calls)
      (λ r. ap (λ values. r.0 ++ values) (map_agree (call_value value w xs r) (call_value value w ys r) (λ call. ap (λ m. unwrap_or m null) (call_result-same (Some w) call xs ys r p)) calls))
      (numbered xs))
      (IsPermutation-map (λ (r : Row × ℕ). r.0 ++ map (call_value value w ys r) calls) _ _ (numbered-same xs ys p))
