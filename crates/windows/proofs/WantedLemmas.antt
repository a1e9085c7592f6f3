-- The value at the place of a row in the sequence of its partition is that which is wanted for the row.
use Rattle.std.proofs.Common.{◌≡◌, ◌∙◌, ◌+◌, ◌<◌, ◌≤◌, ℕ, true, false, All, Ordering, Less, Equal, Greater, List, [], filter, get_or, length, take, Option, refl, sym, ap, subst, arith, IsPermutation}
use Rattle.std.proofs.lemmas.Bool.{false≢true}
use Rattle.std.proofs.lemmas.List.{get_or-map, length-map, take-map}
use Rattle.std.proofs.lemmas.List.Sorted.{All-permutation, IsPermutation-map, IsPermutation-trans, length_permutation, ranks_by, sorted_far}
use Rattle.std.specs.Cmp.{tied_itself}
use Rattle.std.specs.Ordering.{is_eq, is_lt, ordering_reverse, ordering_then}
use Rattle.values.specs.Datum.{Datum}
use Rattle.values.specs.Order.{row_cmp}
use Rattle.values.specs.Row.{Row}
use Rattle.expr.proofs.BagLemmas.{IsPermutation-filter}
use Rattle.semantics.specs.Query.{SortTerm, WindowCall}
use Rattle.semantics.specs.Times.{same_row, times}
use Rattle.semantics.specs.Valuation.{Valuation}
use Rattle.semantics.specs.Windows.{call_result, numbered, partition_of, place_of, row_at, sequence, sequence_cmp, window_result}
use Rattle.semantics.proofs.KeyLemmas.{sequence-one, sequence_total}
use Rattle.semantics.proofs.OrderLemmas.{IsSortedBy-ascending}
use Rattle.semantics.proofs.TimesLemmas.{same_row-itself, same_row-reads, same_row-turned}
use Rattle.windows.specs.window_partitions.Partition.{IsPartition}
use Rattle.windows.specs.window_partitions.Tagged.{AreAlike, copies, rows_of_tags, tagged}
use Rattle.windows.proofs.lemmas.window_partitions.AlikeLemmas.{filter-map}
use Rattle.windows.proofs.lemmas.window_partitions.PlaceLemmas.{place_in, same_before}
use Rattle.windows.proofs.NumberedLemmas.{numbered_at, times-as_copies}

-- ---- rows in the order of a sequence

second_ties : (a b : Ordering) → ordering_then a b ≡ Equal → b ≡ Equal
second_ties Less b e = absurd cc
second_ties Equal b e = e
second_ties Greater b e = absurd cc

module _ (value : Valuation) (order : List SortTerm) where
  apart : (r x : Row) → same_row r x ≡ true → is_lt (sequence_cmp value order x r) ≡ false
  apart r x e = ap (λ y. is_lt (sequence_cmp value order x y)) (same_row-reads r x e) ∙ ap is_lt (tied_itself (sequence_total value order) x)

  tie : (r x : Row) → is_lt (sequence_cmp value order x r) ≡ false → is_lt (sequence_cmp value order r x) ≡ false → same_row r x ≡ true
  tie r x low high = by (sequence_cmp value order x r) refl low
    where
      by : (o : Ordering) → sequence_cmp value order x r ≡ o → is_lt o ≡ false → same_row r x ≡ true
      by Less is h = absurd (false≢true (sym h))
      by Equal is h = same_row-turned x r ∙ ap is_eq (second_ties _ (row_cmp x r) is)
      by Greater is h = absurd (false≢true (sym high ∙ ap is_lt ((sequence_total value order).antisymm r x ∙ ap ordering_reverse is)))

  rises : (rows : List Row) (i j : ℕ) (d : Row) → i ≤ j → j < length (sequence value order rows)
      → is_lt (sequence_cmp value order (get_or (sequence value order rows) j d) (get_or (sequence value order rows) i d)) ≡ false
  rises rows =
      let strict = ranks_by (sequence_total value order) (λ (row : Row). row) in
      sorted_far (λ x y. is_lt (sequence_cmp value order x y)) strict (sequence value order rows) (IsSortedBy-ascending (λ x y. is_lt (sequence_cmp value order x y)) strict rows)

-- ---- the sequence of a partition

module _ (value : Valuation) (call : WindowCall) (rows : List Row) (given placed : List (Row × ℕ)) (is : IsPartition value call.window rows given)
    (same : IsPermutation given placed) (alike : AreAlike given placed) (in_order : rows_of_tags placed ≡ sequence value call.window.order (rows_of_tags given)) where
  all_given : All (λ (s : Row × ℕ). (s.1 < length rows) × (row_at rows s.1 ≡ s.0)) placed
  all_given = All-permutation (λ (s : Row × ℕ). (s.1 < length rows) × (row_at rows s.1 ≡ s.0)) given placed same is.given

  all_whole : All (λ (s : Row × ℕ). IsPermutation (partition_of value call.window rows s.0) (rows_of_tags given)) placed
  all_whole = All-permutation (λ (s : Row × ℕ). IsPermutation (partition_of value call.window rows s.0) (rows_of_tags given)) given placed same is.whole

  all_alike : All (λ (s : Row × ℕ). copies s.0 given ≡ copies s.0 (tagged 0 rows)) placed
  all_alike = All-permutation (λ (s : Row × ℕ). copies s.0 given ≡ copies s.0 (tagged 0 rows)) given placed same is.alike

  up : (i j : ℕ) (d : Row) → i ≤ j → j < length (rows_of_tags placed)
      → is_lt (sequence_cmp value call.window.order (get_or (rows_of_tags placed) j d) (get_or (rows_of_tags placed) i d)) ≡ false
  up = subst (λ (l : List Row). (i j : ℕ) (d : Row) → i ≤ j → j < length l → is_lt (sequence_cmp value call.window.order (get_or l j d) (get_or l i d)) ≡ false)
      (sym in_order) (rises value call.window.order (rows_of_tags given))

  -- of the row at a place
  module _ (t : Row × ℕ) (k : ℕ) (inside : k < length placed) (at : get_or placed k t ≡ t) where
    pub given_here : (t.1 < length rows) × (row_at rows t.1 ≡ t.0)
    given_here = subst (λ (s : Row × ℕ). (s.1 < length rows) × (row_at rows s.1 ≡ s.0)) at (all_given k t inside)

    whole_here : IsPermutation (partition_of value call.window rows t.0) (rows_of_tags given)
    whole_here = subst (λ (s : Row × ℕ). IsPermutation (partition_of value call.window rows s.0) (rows_of_tags given)) at (all_whole k t inside)

    copies_here : copies t.0 placed ≡ copies t.0 (tagged 0 rows)
    copies_here =
        subst (λ (s : Row × ℕ). copies s.0 placed ≡ copies s.0 given) at (alike k t inside)
        ∙ subst (λ (s : Row × ℕ). copies s.0 given ≡ copies s.0 (tagged 0 rows)) at (all_alike k t inside)

    one_sequence : sequence value call.window.order (partition_of value call.window rows t.0) ≡ rows_of_tags placed
    one_sequence = sequence-one value call.window.order (partition_of value call.window rows t.0) (rows_of_tags given) whole_here ∙ sym in_order

    one_bag : IsPermutation (partition_of value call.window rows t.0) (rows_of_tags placed)
    one_bag = IsPermutation-trans (partition_of value call.window rows t.0) (rows_of_tags given) (rows_of_tags placed) whole_here
        (IsPermutation-map (λ (s : Row × ℕ). s.0) given placed same)

    row_here : (d : Row) → get_or (rows_of_tags placed) k d ≡ t.0
    row_here d = get_or-map (λ (s : Row × ℕ). s.0) placed k t d inside ∙ ap (λ (s : Row × ℕ). s.0) at

    equal_before : length (filter (same_row t.0) (take k (rows_of_tags placed))) ≡ times t.0 (take t.1 rows)
    equal_before =
        ap (λ l. length (filter (same_row t.0) l)) (take-map (λ (s : Row × ℕ). s.0) k placed)
        ∙ ap length (filter-map (same_row t.0) (λ (s : Row × ℕ). s.0) (take k placed))
        ∙ length-map (filter (λ (s : Row × ℕ). same_row t.0 s.0) (take k placed)) (λ (s : Row × ℕ). s.0)
        ∙ same_before (same_row t.0) rows placed k t [] inside at (same_row-itself t.0) given_here.0 given_here.1 copies_here
        ∙ sym (times-as_copies t.0 (take t.1 rows))

    lesser : length (filter (λ other. is_lt (sequence_cmp value call.window.order other t.0)) (partition_of value call.window rows t.0))
        ≡ length (filter (λ other. is_lt (sequence_cmp value call.window.order other t.0)) (rows_of_tags placed))
    lesser = sym (length_permutation _ _ (IsPermutation-filter (λ other. is_lt (sequence_cmp value call.window.order other t.0)) _ _ one_bag))

    place_here : place_of value call.window rows (t.0, times t.0 (take t.1 rows)) ≡ k
    place_here =
        let size = length-map placed (λ (s : Row × ℕ). s.0) in
        let position = place_in (λ x y. is_lt (sequence_cmp value call.window.order x y)) same_row t.0 (apart value call.window.order t.0) (tie value call.window.order t.0)
        (rows_of_tags placed) k (omega (arith, inside, size))
        (λ j d low. ap (λ r. is_lt (sequence_cmp value call.window.order r (get_or (rows_of_tags placed) j d))) (sym (row_here d)) ∙ up j k d (omega (arith, low)) (omega (arith, inside, size)))
        (λ j d from within. ap (λ r. is_lt (sequence_cmp value call.window.order (get_or (rows_of_tags placed) j d) r)) (sym (row_here d)) ∙ up k j d from within) in
        (λ i. lesser i + sym equal_before i) ∙ position

    pub wanted_here : (o : Option Datum) → call_result value o call rows (get_or (numbered rows) t.1 ([], 0)) ≡ window_result value o call.window call.function (rows_of_tags placed) k
    wanted_here o =
        let is_row = given_here.1 in
        ap (call_result value o call rows) (numbered_at rows t.1 ([], 0) given_here.0 ∙ (λ i. (is_row i, times (is_row i) (take t.1 rows))))
        ∙ (λ i. window_result value o call.window call.function (one_sequence i) (place_here i))
