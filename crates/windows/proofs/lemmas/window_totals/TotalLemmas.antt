-- Totals and counts of the first values of a list, and of a part of it.
use Rattle.std.proofs.Common.{◌≡◌, ◌∙◌, ◌+◌, ◌-◌, ◌<◌, ◌≤◌, ◌+ℤ◌, ◌-ℤ◌, ◌++◌, ◌⊎◌, inl, inr, true, false, not, cond, ℕ, zero, suc, ℤ, pos, List, [], ◌∷◌, Option, All, drop, get_or, length, map, slice_range, take, refl, sym, ap, subst, arith}
use Rattle.std.proofs.lemmas.Int.{ints}
use Rattle.std.proofs.lemmas.List.{drop-take, get_or_append_left, get_or_push, length-map, length_push, take-append-drop, take-take, take_more}
use Rattle.std.proofs.lemmas.List.Elements.{All-drop, All-from_get_or, All-head, All-tail, All-take}
use Rattle.values.specs.Datum.{Datum, datum_of, null, int, text, blob}
use Rattle.values.specs.declared.value.Value.{Value}
use Rattle.expr.specs.operations.Operations.{is_null, settle}
use Rattle.semantics.specs.Query.{AggregateFunction}
use Rattle.semantics.specs.Groups.{measure, number, total}
use Rattle.windows.specs.declared.frames.ranges.Ranges.{Ranges}
use Rattle.windows.specs.frames.Slices.{slices}
use Rattle.windows.specs.window_totals.Totals.{AreTotals, IsBounded, IsSmall, kept}

-- ---- totals

pub total-append : (xs ys : List Datum) → total (xs ++ ys) ≡ total xs +ℤ total ys
total-append [] ys = omega (arith, ints)
total-append (x ∷ xs) ys = let ih = total-append xs ys in omega (arith, ints, ih)

pub total-more : (xs : List Datum) (i : ℕ) → i < length xs → total (take (i + 1) xs) ≡ total (take i xs) +ℤ number (get_or xs i null)
total-more xs i h =
    let last : total (get_or xs i null ∷ []) ≡ number (get_or xs i null) = omega (arith, ints) in
    ap total (take_more xs i null h) ∙ total-append (take i xs) (get_or xs i null ∷ []) ∙ ap (λ z. total (take i xs) +ℤ z) last

parted : (xs : List Datum) (a b : ℕ) → a ≤ b → take b xs ≡ take a xs ++ slice_range xs a b
parted xs a b h =
    let whole : a + (b - a) ≡ b = omega (arith, h) in
    let part : drop a (take b xs) ≡ slice_range xs a b = ap (λ n. drop a (take n xs)) (sym whole) ∙ drop-take a (b - a) xs in
    sym (take-append-drop a (take b xs)) ∙ (λ j. take-take a b xs h j ++ part j)

pub total-range : (xs : List Datum) (a b : ℕ) → a ≤ b → total (slice_range xs a b) ≡ total (take b xs) -ℤ total (take a xs)
total-range xs a b h =
    let sum : total (take b xs) ≡ total (take a xs) +ℤ total (slice_range xs a b) = ap total (parted xs a b h) ∙ total-append (take a xs) (slice_range xs a b) in
    omega (arith, ints, sum)

-- what holds of each 64 bits holds of their sum
total-bounded : (xs : List Datum) → All IsSmall xs → IsBounded (length xs) (total xs)
total-bounded [] all = record { low = omega (arith, ints); high = omega (arith, ints) }
total-bounded (x ∷ xs) all =
    let ih = total-bounded xs (All-tail IsSmall x xs all) in
    let one = All-head IsSmall x xs all in
    record { low = omega (arith, ints, ih.low, one.low); high = omega (arith, ints, ih.high, one.high) }

-- ---- counts

pub count-append : (xs ys : List Datum) → length (kept (xs ++ ys)) ≡ length (kept xs) + length (kept ys)
count-append [] ys = omega arith
count-append (x ∷ xs) ys =
    let ih = count-append xs ys in
    elim (not (is_null x)) as (λ b. length (cond b (x ∷ kept (xs ++ ys)) (kept (xs ++ ys))) ≡ length (cond b (x ∷ kept xs) (kept xs)) + length (kept ys)) [
      | true ↦ omega (arith, ih)
      | false ↦ ih
    ]

pub count-more : (xs : List Datum) (i : ℕ) → i < length xs → length (kept (take (i + 1) xs)) ≡ length (kept (take i xs)) + length (kept (get_or xs i null ∷ []))
count-more xs i h = ap (λ l. length (kept l)) (take_more xs i null h) ∙ count-append (take i xs) (get_or xs i null ∷ [])

pub count-range : (xs : List Datum) (a b : ℕ) → a ≤ b → length (kept (take b xs)) ≡ length (kept (take a xs)) + length (kept (slice_range xs a b))
count-range xs a b h = ap (λ l. length (kept l)) (parted xs a b h) ∙ count-append (take a xs) (slice_range xs a b)

count-few : (xs : List Datum) → length (kept xs) ≤ length xs
count-few [] = omega arith
count-few (x ∷ xs) =
    let ih = count-few xs in
    elim (not (is_null x)) as (λ b. length (cond b (x ∷ kept xs) (kept xs)) ≤ length (x ∷ xs)) [ true ↦ omega (arith, ih) | false ↦ omega (arith, ih) ]

-- ---- NULL counts nothing

total-taken : (x : Datum) (xs : List Datum) → total (cond (not (is_null x)) (x ∷ xs) xs) ≡ number x +ℤ total xs
unfolding is_null
total-taken null xs = omega (arith, ints)
total-taken (int n) xs = refl
total-taken (text s) xs = refl
total-taken (blob s) xs = refl

pub total-kept : (xs : List Datum) → total (kept xs) ≡ total xs
total-kept [] = refl
total-kept (x ∷ xs) = total-taken x (kept xs) ∙ ap (λ z. number x +ℤ z) (total-kept xs)

-- ---- of a part

short : (xs : List Datum) (a b : ℕ) → length (slice_range xs a b) ≤ b - a
short xs a b = length_taken (b - a) (drop a xs)
  where
    length_taken : (n : ℕ) (ys : List Datum) → length (take n ys) ≤ n
    length_taken zero ys = omega arith
    length_taken (suc n) [] = omega arith
    length_taken (suc n) (y ∷ ys) = let ih = length_taken n ys in omega (arith, ih)

module _ (xs : List Datum) (sums : List ℤ) (counts : List ℕ) (are : AreTotals xs sums counts) (a b : ℕ) (ordered : a ≤ b) (within : b ≤ length xs) where
  pub sum_of_part : get_or sums b (pos 0) -ℤ get_or sums a (pos 0) ≡ total (slice_range xs a b)
  sum_of_part =
      let x = are.total_of a (omega (arith, ordered, within)) in
      let y = are.total_of b within in
      let part = total-range xs a b ordered in
      omega (arith, ints, x, y, part)

  pub part_bounded : IsBounded (b - a) (total (slice_range xs a b))
  part_bounded =
      let all : All IsSmall (slice_range xs a b) = All-take IsSmall (b - a) (drop a xs) (All-drop IsSmall a xs (All-from_get_or IsSmall xs null are.small)) in
      let bound = total-bounded (slice_range xs a b) all in
      let few = short xs a b in
      record { low = omega (arith, ints, bound.low, few); high = omega (arith, ints, bound.high, few) }

  pub count_of_part : get_or counts b 0 ≡ get_or counts a 0 + length (kept (slice_range xs a b))
  count_of_part =
      let x = are.count_of a (omega (arith, ordered, within)) in
      let y = are.count_of b within in
      let part = count-range xs a b ordered in
      omega (arith, x, y, part)

  pub part_few : length (kept (slice_range xs a b)) ≤ b - a
  part_few = let few = count-few (slice_range xs a b) in let size = short xs a b in omega (arith, few, size)

-- ---- of three parts

pub total-slices : (r : Ranges) (xs : List Datum) → total (slices r xs) ≡ (total (slice_range xs r.start r.from) +ℤ total (slice_range xs r.middle r.after)) +ℤ total (slice_range xs r.to r.end)
total-slices r xs =
    let all = total-append (slice_range xs r.start r.from) (slice_range xs r.middle r.after ++ slice_range xs r.to r.end) in
    let rest = total-append (slice_range xs r.middle r.after) (slice_range xs r.to r.end) in
    omega (arith, ints, all, rest)

pub count-slices : (r : Ranges) (xs : List Datum)
    → length (kept (slices r xs)) ≡ length (kept (slice_range xs r.start r.from)) + length (kept (slice_range xs r.middle r.after)) + length (kept (slice_range xs r.to r.end))
count-slices r xs =
    let all = count-append (slice_range xs r.start r.from) (slice_range xs r.middle r.after ++ slice_range xs r.to r.end) in
    let rest = count-append (slice_range xs r.middle r.after) (slice_range xs r.to r.end) in
    omega (arith, all, rest)

-- ---- of one value more

last_or_before : (k n : ℕ) → k ≤ n + 1 → (k ≤ n) ⊎ (n + 1 ≡ k)
last_or_before zero n h = inl (omega arith)
last_or_before (suc k) zero h = inr (omega (arith, h))
last_or_before (suc k) (suc n) h = elim (last_or_before k n (omega (arith, h))) [ inl p ↦ inl (omega (arith, p)) | inr p ↦ inr (omega (arith, p)) ]

-- what holds of each number of values, and of one more
pushed : {A : Type 0} (d : A) (P : ℕ → A → Type 0) (xs : List A) (y : A) (i : ℕ) → length xs ≡ i + 1 → ((k : ℕ) → k ≤ i → P k (get_or xs k d)) → P (i + 1) y
    → (k : ℕ) → k ≤ i + 1 → P k (get_or (xs ++ y ∷ []) k d)
pushed d P xs y i size each last k h = elim (last_or_before k i h) [
  | inl low ↦ subst (P k) (sym (get_or_append_left xs (y ∷ []) d k (omega (arith, low, size)))) (each k low)
  | inr same ↦
      let at_end : length xs ≡ k = omega (arith, same, size) in
      subst (P k) (sym (get_or_push xs y d k at_end)) (subst (λ n. P n y) same last)
]

pub record IsAdded (xs : List Datum) (i : ℕ) (sum : ℤ) (count : ℕ) (sums : List ℤ) (counts : List ℕ) : Type 0 where
  pub sum_is : sum ≡ total (take i xs)
  pub count_is : count ≡ length (kept (take i xs))
  pub sums_size : length sums ≡ i + 1
  pub counts_size : length counts ≡ i + 1
  pub total_of : (k : ℕ) → k ≤ i → get_or sums k (pos 0) ≡ total (take k xs)
  pub count_of : (k : ℕ) → k ≤ i → get_or counts k 0 ≡ length (kept (take k xs))
  pub small : (k : ℕ) → k < i → IsSmall (get_or xs k null)

small_more : (xs : List Datum) (i : ℕ) → ((k : ℕ) → k < i → IsSmall (get_or xs k null)) → IsSmall (get_or xs i null) → (k : ℕ) → k < i + 1 → IsSmall (get_or xs k null)
small_more xs i each last k h = elim (last_or_before (k + 1) i (omega (arith, h))) [
  | inl low ↦ each k (omega (arith, low))
  | inr same ↦ let here : i ≡ k = omega (arith, same) in subst (λ n. IsSmall (get_or xs n null)) here last
]

pub none_added : (xs : List Datum) → IsAdded xs 0 (pos 0) 0 (pos 0 ∷ []) (0 ∷ [])
none_added xs = record {
  sum_is = refl;
  count_is = refl;
  sums_size = refl;
  counts_size = refl;
  total_of = λ k h. let none : 0 ≡ k = omega (arith, h) in subst (λ n. get_or (pos 0 ∷ []) n (pos 0) ≡ total (take n xs)) none refl;
  count_of = λ k h. let none : 0 ≡ k = omega (arith, h) in subst (λ n. get_or (0 ∷ []) n 0 ≡ length (kept (take n xs))) none refl;
  small = λ k h. absurd (omega (arith, h));
}

pub added_more : (xs : List Datum) (i : ℕ) (sum : ℤ) (count : ℕ) (sums : List ℤ) (counts : List ℕ) → IsAdded xs i sum count sums counts → i < length xs
    → (v : Datum) → get_or xs i null ≡ v → IsSmall v
    → (sum' : ℤ) (count' : ℕ) (sums' : List ℤ) (counts' : List ℕ) → sum' ≡ sum +ℤ number v → count' ≡ count + length (kept (v ∷ [])) → sums' ≡ sums ++ sum' ∷ [] → counts' ≡ counts ++ count' ∷ []
    → IsAdded xs (i + 1) sum' count' sums' counts'
added_more xs i sum count sums counts w inside v is small sum' count' sums' counts' new_sum new_count new_sums new_counts =
    let sum_is : sum' ≡ total (take (i + 1) xs) = new_sum ∙ (λ j. w.sum_is j +ℤ number (sym is j)) ∙ sym (total-more xs i inside) in
    let count_is : count' ≡ length (kept (take (i + 1) xs)) = new_count ∙ (λ j. w.count_is j + length (kept (sym is j ∷ []))) ∙ sym (count-more xs i inside) in
    record {
      sum_is = sum_is;
      count_is = count_is;
      sums_size = ap length new_sums ∙ length_push sums sum' ∙ ap (λ n. n + 1) w.sums_size;
      counts_size = ap length new_counts ∙ length_push counts count' ∙ ap (λ n. n + 1) w.counts_size;
      total_of = λ k h. subst (λ l. get_or l k (pos 0) ≡ total (take k xs)) (sym new_sums) (pushed (pos 0) (λ n z. z ≡ total (take n xs)) sums sum' i w.sums_size w.total_of sum_is k h);
      count_of = λ k h. subst (λ l. get_or l k 0 ≡ length (kept (take k xs))) (sym new_counts) (pushed 0 (λ n z. z ≡ length (kept (take n xs))) counts count' i w.counts_size w.count_of count_is k h);
      small = small_more xs i w.small (subst IsSmall (sym is) small);
    }

pub all_added : (xs : List Datum) (i : ℕ) (sum : ℤ) (count : ℕ) (sums : List ℤ) (counts : List ℕ) → IsAdded xs i sum count sums counts → length xs ≡ i → AreTotals xs sums counts
all_added xs i sum count sums counts w all = record {
  sums_size = w.sums_size ∙ ap (λ n. n + 1) (sym all);
  counts_size = w.counts_size ∙ ap (λ n. n + 1) (sym all);
  total_of = λ k h. w.total_of k (omega (arith, h, all));
  count_of = λ k h. w.count_of k (omega (arith, h, all));
  small = λ k h. w.small k (omega (arith, h, all));
}

-- the value at a place of the values
pub datum_at : (values : List Value) (i : ℕ) (v : Value) → i < length values → get_or (map datum_of values) i null ≡ datum_of (get_or values i v)
datum_at [] i v h = absurd (omega (arith, h))
datum_at (x ∷ values) zero v h = refl
datum_at (x ∷ values) (suc i) v h = datum_at values i v (omega (arith, h))

pub length-data : (values : List Value) → length (map datum_of values) ≡ length values
length-data values = length-map values datum_of

-- what stands at a place that there is
pub read_at : {A : Type 0} (xs : List A) (i : ℕ) (d e : A) → i < length xs → get_or xs i d ≡ get_or xs i e
read_at [] i d e h = absurd (omega (arith, h))
read_at (x ∷ xs) zero d e h = refl
read_at (x ∷ xs) (suc i) d e h = read_at xs i d e (omega (arith, h))

-- the sum of some values is their total
pub measure-sum : (o : Option Datum) (values : List Datum) → (length values ≡ 0 → ⊥) → measure o AggregateFunction.sum values ≡ settle o (total values)
measure-sum o [] some = absurd (some refl)
measure-sum o (v ∷ values) some = refl
