-- What is known of a sequence gives the values of the definition.
use Rattle.std.proofs.Common.{Any, ◌≡◌, ◌∙◌, ◌+◌, ◌-◌, ◌*◌, ◌/◌, ◌%◌, ◌<◌, ◌≤◌, ℕ, zero, suc, pos, nat_le, nat_lt, Bool, true, false, cond, if◌then◌else◌, List, [], ◌∷◌, filter, length, map, reverse, Option, Some, refl, sym, ap, subst, arith}
use native.Mathlib.Nat.{div-zero, mod-zero}
use Rattle.std.specs.List.{range_with_len}
use Rattle.std.proofs.lemmas.Bool.Decides.{nat_tests}
use Rattle.std.proofs.lemmas.List.{get_or-map, length-map}
use Rattle.values.specs.Datum.{Datum, datum_of, null}
use Rattle.values.specs.Row.{Row}
use Rattle.expr.specs.Meaning.{Overflows}
use Rattle.expr.specs.operations.Operations.{settle}
use Rattle.expr.specs.Term.{Term}
use Rattle.semantics.specs.Groups.{measure}
use Rattle.semantics.specs.Query.{Window, WindowFunction}
use Rattle.semantics.specs.Sequence.{value_at}
use Rattle.semantics.specs.Valuation.{Valuation}
use Rattle.semantics.specs.Windows.{bucket, directions, in_frame, places, row_at, sort_values, window_result}
use Rattle.windows_groups.specs.declared.window_order.sorting.Entry.{Entry}
use Rattle.windows.specs.declared.frames.ranges.Ranges.{Ranges}
use Rattle.windows.specs.frames.Ranges.{AreInside, IsUnion}
use Rattle.windows.specs.frames.Slices.{slices}
use Rattle.windows.proofs.lemmas.frames.SliceLemmas.{chosen_slices}
use Rattle.windows.specs.window_totals.Totals.{kept}
use Rattle.windows.specs.window_results.Known.{IsAsLong, known_for, known_result}

-- ---- the values at the places of a set

in_places : (S : ℕ → Bool) (f : Row → Datum) (rows : List Row) (h : ℕ → Datum) (n a : ℕ) → ((k : ℕ) → a ≤ k → k < a + n → f (row_at rows k) ≡ h k)
    → map f (map (row_at rows) (filter S (range_with_len a n))) ≡ map h (filter S (range_with_len a n))
in_places S f rows h zero a each = refl
in_places S f rows h (suc n) a each =
    let first = each a (omega arith) (omega arith) in
    let rest = in_places S f rows h n (a + 1) (λ k low high. each k (omega (arith, low)) (omega (arith, high))) in
    elim (S a) as (λ b. map f (map (row_at rows) (cond b (a ∷ filter S (range_with_len (a + 1) n)) (filter S (range_with_len (a + 1) n))))
    ≡ map h (cond b (a ∷ filter S (range_with_len (a + 1) n)) (filter S (range_with_len (a + 1) n)))) [
      | true ↦ (λ i. first i ∷ rest i)
      | false ↦ rest
    ]

frame_as_values : (S : ℕ → Bool) (f : Row → Datum) (g : Row → Row) (rows : List Row)
    → map f (map (row_at rows) (filter S (places rows))) ≡ map (value_at (map f rows)) (filter S (places (map g rows)))
frame_as_values S f g rows =
    in_places S f rows (value_at (map f rows)) (length rows) 0 (λ k low high. let inside : k < length rows = omega (arith, high) in sym (get_or-map f rows k [] null inside))
    ∙ ap (λ m. map (value_at (map f rows)) (filter S (range_with_len 0 m))) (sym (length-map rows g))

pub frame_as_slices : (S : ℕ → Bool) (r : Ranges) (values : List Datum) (keys : List Row) → length values ≡ length keys → IsUnion S r (length keys)
    → map (value_at values) (filter S (places keys)) ≡ slices r values
frame_as_slices S r values keys size u =
    ap (λ m. map (value_at values) (filter S (range_with_len 0 m))) (sym size) ∙ chosen_slices Datum S r values null (subst (IsUnion S r) (sym size) u)

pub inside_of : (S : ℕ → Bool) (r : Ranges) (n m : ℕ) → n ≡ m → IsUnion S r m → AreInside r n
inside_of S r n m size u = record { a = u.a; b = u.b; c = u.c; d = u.d; e = u.e; within = omega (arith, size, u.within) }

-- ---- the value of each function

module _ (o : Option Datum) (value : Valuation) (window : Window) (rows : List Row) (here : ℕ) (inside : here < length rows) where
  behind : (x otherwise : Term) (n : ℕ) (b : Bool) → nat_lt (here + n) (length rows) ≡ b
      → Some (cond b (value x (row_at rows (here + n))) (value otherwise (row_at rows here))) ≡ Some (cond b (value_at (map (value x) rows) (here + n)) (value_at (map (value otherwise) rows) here))
  behind x otherwise n true is = ap Some (sym (get_or-map (value x) rows (here + n) [] null (less (here + n) (length rows) is)))
    where
      less : (a b : ℕ) → nat_lt a b ≡ true → a < b
      less a b h = grind (arith, nat_tests)
  behind x otherwise n false is = ap Some (sym (get_or-map (value otherwise) rows here [] null inside))

  pub known_gives : (f : WindowFunction)
      → window_result value o window f rows here ≡ known_result o (directions window.order) window.frame (map (sort_values value window.order) rows) (known_for value f rows) here
  known_gives (WindowFunction.aggregate a) =
      ap (λ values. measure o a.function (kept values))
      (frame_as_values (in_frame (directions window.order) window.frame (map (sort_values value window.order) rows) here) (value a.argument) (sort_values value window.order) rows)
  known_gives WindowFunction.row_number = refl
  known_gives WindowFunction.rank = refl
  known_gives WindowFunction.dense_rank = refl
  known_gives (WindowFunction.ntile n) = ap (λ size. settle o (pos (bucket n size here + 1))) (sym (length-map rows (sort_values value window.order)))
  known_gives (WindowFunction.lag x n otherwise) =
      let before = sym (get_or-map (value x) rows (here - n) [] null (omega (arith, inside))) in
      let instead = sym (get_or-map (value otherwise) rows here [] null inside) in
      (λ i. Some (cond (nat_le n here) (before i) (instead i)))
  known_gives (WindowFunction.lead x n otherwise) =
      behind x otherwise n (nat_lt (here + n) (length rows)) refl
      ∙ ap (λ size. Some (cond (nat_lt (here + n) size) (value_at (map (value x) rows) (here + n)) (value_at (map (value otherwise) rows) here))) (sym (length-map rows (sort_values value window.order)))
  known_gives (WindowFunction.first_value x) =
      ap (λ values. Some (value_at values 0))
      (frame_as_values (in_frame (directions window.order) window.frame (map (sort_values value window.order) rows) here) (value x) (sort_values value window.order) rows)
  known_gives (WindowFunction.last_value x) =
      ap (λ values. Some (value_at (reverse values) 0))
      (frame_as_values (in_frame (directions window.order) window.frame (map (sort_values value window.order) rows) here) (value x) (sort_values value window.order) rows)
  known_gives (WindowFunction.nth_value x n) =
      ap (λ values. Some (value_at values (n - 1)))
      (frame_as_values (in_frame (directions window.order) window.frame (map (sort_values value window.order) rows) here) (value x) (sort_values value window.order) rows)

pub same_length : (es : List Entry) → length (map (λ (e : Entry). map datum_of e.row.now) es) ≡ length (map (λ (e : Entry). map datum_of e.keys.items) es)
same_length es = length-map es (λ (e : Entry). map datum_of e.row.now) ∙ sym (length-map es (λ (e : Entry). map datum_of e.keys.items))

pub known_size : (value : Valuation) (f : WindowFunction) (rows : List Row) (n : ℕ) → length rows ≡ n → IsAsLong n (known_for value f rows)
known_size value (WindowFunction.aggregate a) rows n is = length-map rows (value a.argument) ∙ is
known_size value WindowFunction.row_number rows n is = tt
known_size value WindowFunction.rank rows n is = tt
known_size value WindowFunction.dense_rank rows n is = tt
known_size value (WindowFunction.ntile k) rows n is = tt
known_size value (WindowFunction.lag x k otherwise) rows n is = (length-map rows (value x) ∙ is, length-map rows (value otherwise) ∙ is)
known_size value (WindowFunction.lead x k otherwise) rows n is = (length-map rows (value x) ∙ is, length-map rows (value otherwise) ∙ is)
known_size value (WindowFunction.first_value x) rows n is = length-map rows (value x) ∙ is
known_size value (WindowFunction.last_value x) rows n is = length-map rows (value x) ∙ is
known_size value (WindowFunction.nth_value x k) rows n is = length-map rows (value x) ∙ is

-- ---- no buckets

pub no_buckets : (buckets size here : ℕ) → buckets ≡ 0 → here < size → bucket buckets size here ≡ here
no_buckets buckets size here none inside =
    ap (λ b. bucket b size here) none ∙ by (size / 0) (size % 0) (div-zero size) (mod-zero size)
  where
    by : (small large : ℕ) → small ≡ 0 → large ≡ size
        → (if nat_lt here (large * (small + 1)) then here / (small + 1) else (large + (here - large * (small + 1)) / small)) ≡ here
    by small large s l =
        let width : small + 1 ≡ 1 = omega (arith, s) in
        let all : large * (small + 1) ≡ size = ap (λ k. large * k) width ∙ (let one : large * 1 ≡ size = omega (arith, l) in one) in
        let yes : nat_lt here (large * (small + 1)) ≡ true = ap (nat_lt here) all ∙ less_yes here size inside in
        rw yes (ap (λ k. here / k) width ∙ whole here)
      where
        less_yes : (a b : ℕ) → a < b → nat_lt a b ≡ true
        less_yes a b h = grind (arith, nat_tests)

        whole : (n : ℕ) → n / 1 ≡ n
        whole n = omega arith

-- ---- an argument that reaches an operation out of range

pub first_reached : (t : Term) (rest ts : List Term) (rows : List Row) → ts ≡ t ∷ rest → Any (λ row. Overflows t row) rows → Any (λ row. Any (λ t. Overflows t row) ts) rows
first_reached t rest ts rows is some =
    (some.0, some.1, some.2, some.3, subst (λ (l : List Term). Any (λ t. Overflows t some.1) l) (sym is) (0, t, omega arith, refl, some.4))

pub second_reached : (s t : Term) (ts : List Term) (rows : List Row) → ts ≡ s ∷ t ∷ [] → Any (λ row. Overflows t row) rows → Any (λ row. Any (λ t. Overflows t row) ts) rows
second_reached s t ts rows is some =
    (some.0, some.1, some.2, some.3, subst (λ (l : List Term). Any (λ t. Overflows t some.1) l) (sym is) (1, t, omega arith, refl, some.4))
