-- The order of entries is total, and what ascends by it is the sequence.
use Rattle.std.proofs.Common.{◌≡◌, ◌∙◌, ◌+◌, ◌<◌, ◌≤◌, false, ℕ, Ordering, Less, Equal, Greater, List, [], ◌∷◌, get_or, length, map, refl, sym, ap, arith, All, IsPermutation, IsSorted}
use Rattle.std.proofs.lemmas.Cmp.{then_total, on_total}
use Rattle.std.proofs.lemmas.List.{length-map}
use Rattle.std.proofs.lemmas.List.Elements.{All-get_or, All-tail}
use Rattle.std.proofs.lemmas.List.Sorted.{All-permutation, IsPermutation-map, ranks_by, sorted_far}
use Rattle.std.specs.Cmp.{IsTotalOrder}
use Rattle.std.specs.Ordering.{is_lt, ordering_then}
use Rattle.values.specs.Datum.{datum_of}
use Rattle.values.specs.Order.{row_cmp}
use Rattle.values.specs.OrderLaws.{row_cmp_total}
use Rattle.semantics.specs.Query.{Direction, SortTerm}
use Rattle.semantics.specs.Sequence.{keys_cmp}
use Rattle.semantics.specs.Valuation.{Valuation}
use Rattle.semantics.specs.Windows.{directions, row_at, sequence, sequence_cmp, sort_values}
use Rattle.semantics.proofs.KeyLemmas.{keys_cmp_total, sequence_is_one}
use Rattle.windows_groups.specs.declared.window_order.sorting.Entry.{Entry}
use Rattle.windows_groups.specs.window_order.Entries.{IsInWindowOrder, IsOf, IsSequence, Keyed, entry_cmp, keys_of, rows_of, view}
use Rattle.windows_groups.proofs.lemmas.window_order.EntryLemmas.{key_at, length-keys_of, row_of_at}

pub entry_total : (ds : List Direction) → IsTotalOrder (entry_cmp ds)
entry_total ds = then_total (on_total (λ (k : Keyed). k.keys) (keys_cmp_total ds)) (on_total (λ (k : Keyed). k.row) row_cmp_total)

not_first : (o p : Ordering) → is_lt (ordering_then o p) ≡ false → is_lt o ≡ false
not_first Less p e = e
not_first Equal p e = refl
not_first Greater p e = refl

module _ (ds : List Direction) (before after : List Entry) (same : IsPermutation before after)
    (up : IsSorted (λ (a b : Entry). entry_cmp ds (view a) (view b)) after) where
  -- no keys come before those in front
  rises_at : (es : List Entry) → IsSorted (λ (a b : Entry). entry_cmp ds (view a) (view b)) es → (i j : ℕ) → i ≤ j → j < length (keys_of es)
      → is_lt (keys_cmp ds (row_at (keys_of es) j) (row_at (keys_of es) i)) ≡ false
  rises_at [] sorted i j low within = absurd (omega (arith, within))
  rises_at (e ∷ es) sorted i j low within =
      let inside : j < length (e ∷ es) = omega (arith, within, length-keys_of (e ∷ es)) in
      let far = sorted_far (λ (a b : Entry). is_lt (entry_cmp ds (view a) (view b))) (ranks_by (entry_total ds) view) (e ∷ es) sorted i j e low inside in
      let keys : is_lt (keys_cmp ds (map datum_of (get_or (e ∷ es) j e).keys.items) (map datum_of (get_or (e ∷ es) i e).keys.items)) ≡ false = not_first _ _ far in
      (λ k. is_lt (keys_cmp ds (key_at (e ∷ es) j e inside k) (key_at (e ∷ es) i e (omega (arith, low, inside)) k))) ∙ keys

  whole_at : (n : ℕ) (es : List Entry) → All (λ (e : Entry). length e.keys.items ≡ n) es → (i : ℕ) → i < length (keys_of es) → length (row_at (keys_of es) i) ≡ n
  whole_at n [] all i within = absurd (omega (arith, within))
  whole_at n (e ∷ es) all i within =
      let inside : i < length (e ∷ es) = omega (arith, within, length-keys_of (e ∷ es)) in
      ap length (key_at (e ∷ es) i e inside) ∙ length-map (get_or (e ∷ es) i e).keys.items datum_of
      ∙ All-get_or (λ (e : Entry). length e.keys.items ≡ n) (e ∷ es) i e inside all

  pub in_order : All (λ (e : Entry). length e.keys.items ≡ length ds) before → IsInWindowOrder ds (keys_of after)
  in_order all = record {
    rises = rises_at after up;
    whole = whole_at (length ds) after (All-permutation (λ (e : Entry). length e.keys.items ≡ length ds) before after same all);
  }

  module _ (value : Valuation) (order : List SortTerm) (by : directions order ≡ ds) (of : All (IsOf value order) before) where
    of_after : All (IsOf value order) after
    of_after = All-permutation (IsOf value order) before after same of

    ascends_at : (es : List Entry) → IsSorted (λ (a b : Entry). entry_cmp ds (view a) (view b)) es → All (IsOf value order) es → IsSorted (sequence_cmp value order) (rows_of es)
    ascends_at [] sorted all k d low within = absurd (omega (arith, within))
    ascends_at (e ∷ es) sorted all k d low within =
        let inside : k + 1 < length (e ∷ es) = omega (arith, within, length-map (e ∷ es) (λ (entry : Entry). map datum_of entry.row.now)) in
        let before_it : k < length (e ∷ es) = omega (arith, inside) in
        let x = get_or (e ∷ es) (k + 1) e in
        let y = get_or (e ∷ es) k e in
        let of_x : IsOf value order x = All-get_or (IsOf value order) (e ∷ es) (k + 1) e inside all in
        let of_y : IsOf value order y = All-get_or (IsOf value order) (e ∷ es) k e before_it all in
        (λ i. is_lt (sequence_cmp value order (row_of_at (e ∷ es) (k + 1) e d inside i) (row_of_at (e ∷ es) k e d before_it i)))
        ∙ (λ i. is_lt (ordering_then (keys_cmp (by i) (sym of_x i) (sym of_y i)) (row_cmp (view x).row (view y).row)))
        ∙ sorted k e low inside

    all_keys : (es : List Entry) → All (IsOf value order) es → keys_of es ≡ map (sort_values value order) (rows_of es)
    all_keys [] all = refl
    all_keys (e ∷ es) all =
        (λ i. All-get_or (IsOf value order) (e ∷ es) 0 e (omega arith) all i ∷ all_keys es (All-tail (IsOf value order) e es all) i)

    pub is_sequence : IsSequence value order before after
    is_sequence =
        let rows : rows_of after ≡ sequence value order (rows_of before) =
        sequence_is_one value order (rows_of before) (rows_of after) (IsPermutation-map (λ (entry : Entry). map datum_of entry.row.now) before after same) (ascends_at after up of_after) in
        record { rows = rows; keys = all_keys after of_after ∙ ap (map (sort_values value order)) rows }
