-- The groups of peers of the values of PARTITION BY are the partitions.
use Rattle.std.proofs.Common.{◌≡◌, ◌∙◌, ◌+◌, ◌-◌, ◌<◌, ◌≤◌, ◌⊎◌, inl, inr, ℕ, zero, suc, Bool, true, false, ◌&&◌, nat_lt, All, Contains, Ordering, Less, Equal, Greater, List, [], ◌∷◌, drop, filter, get_or, length, map, slice_index, slice_range, refl, sym, ap, subst, arith, IsPermutation}
use Rattle.std.proofs.lemmas.Bool.{false≢true}
use Rattle.std.proofs.lemmas.Bool.Decides.{nat_tests}
use Rattle.std.proofs.lemmas.List.{get_or-drop, get_or-map, get_or-take, length-drop, length-map, length-take-le}
use Rattle.std.proofs.lemmas.List.Sorted.{All-permutation, Contains-permutation, IsPermutation-map}
use Rattle.std.specs.Cmp.{tied_itself}
use Rattle.std.specs.Ordering.{is_eq, nat_cmp}
use Rattle.values.specs.Row.{Row}
use Rattle.expr.proofs.BagLemmas.{IsPermutation-filter}
use Rattle.semantics.specs.Query.{Direction, Window}
use Rattle.semantics.specs.Sequence.{keys_cmp}
use Rattle.semantics.specs.Times.{same_row}
use Rattle.semantics.specs.Valuation.{Valuation, term_values}
use Rattle.semantics.specs.Windows.{partition_of, peer_group, row_at}
use Rattle.semantics.proofs.KeyLemmas.{keys_cmp_total}
use Rattle.semantics.proofs.MoveLemmas.{filter-filter}
use Rattle.semantics.proofs.TimesLemmas.{same_row-itself, same_row-reads}
use Rattle.windows_groups.specs.declared.window_order.peers.PeerGroups.{PeerGroups}
use Rattle.windows_groups.specs.window_order.Entries.{IsInWindowOrder}
use Rattle.windows_groups.specs.window_order.Groups.{AreGroups}
use Rattle.windows_groups.proofs.lemmas.window_order.GroupLemmas.{keys-as_numbers, keys-ties}
use Rattle.windows.specs.window_partitions.Tagged.{AreAlike, copies, rows_of_tags, tagged}
use Rattle.windows.specs.window_partitions.Partition.{ArePartitions, IsPartition, part_at}
use Rattle.windows.proofs.lemmas.window_partitions.AlikeLemmas.{agree_on, filter-map}
use Rattle.windows.proofs.lemmas.window_partitions.KeptLemmas.{slice_kept}
use Rattle.windows.proofs.lemmas.window_partitions.PlaceLemmas.{length-tagged, tagged_at}

-- ---- tests of numbers

less_true : (a b : ℕ) → nat_lt a b ≡ true → a < b
less_true a b h = grind (arith, nat_tests)

less_false : (a b : ℕ) → nat_lt a b ≡ false → b ≤ a
less_false a b h = grind (arith, nat_tests)

less_yes : (a b : ℕ) → a < b → nat_lt a b ≡ true
less_yes a b h = grind (arith, nat_tests)

less_no : (a b : ℕ) → b ≤ a → nat_lt a b ≡ false
less_no a b h = grind (arith, nat_tests)

one_number : (a b : ℕ) → a ≡ b → is_eq (nat_cmp a b) ≡ true
one_number a b h = grind (arith, nat_tests, h)

lesser_number : (a b : ℕ) → a < b → is_eq (nat_cmp b a) ≡ false
lesser_number a b h = grind (arith, nat_tests, h)

greater_number : (a b : ℕ) → a < b → is_eq (nat_cmp a b) ≡ false
greater_number a b h = grind (arith, nat_tests, h)

below_or : (a b : ℕ) → (a < b) ⊎ (b ≤ a)
below_or a zero = inr (omega arith)
below_or zero (suc b) = inl (omega arith)
below_or (suc a) (suc b) = elim (below_or a b) [ inl h ↦ inl (omega (arith, h)) | inr h ↦ inr (omega (arith, h)) ]

-- ---- stretches

pub length-slice : {X : Type 0} (xs : List X) (a b : ℕ) → a ≤ b → b ≤ length xs → length (slice_range xs a b) ≡ b - a
length-slice xs a b low high = let rest = length-drop a xs in length-take-le (b - a) (drop a xs) (omega (arith, rest, low, high))

pub slice_at : {X : Type 0} (xs : List X) (a b i : ℕ) (d : X) → a ≤ b → i < b - a → get_or (slice_range xs a b) i d ≡ get_or xs (a + i) d
slice_at xs a b i d low inside = get_or-take (b - a) (drop a xs) i d inside ∙ get_or-drop a xs i d

-- ---- keys that tie

same_as_tie : (ds : List Direction) (a b : Row) → length a ≡ length ds → length b ≡ length ds → same_row a b ≡ is_eq (keys_cmp ds a b)
same_as_tie ds a b p q =
    elim (same_row a b) as (λ s. same_row a b ≡ s → s ≡ is_eq (keys_cmp ds a b)) [
      | true ↦ λ e. sym (ap is_eq (ap (λ k. keys_cmp ds k b) (same_row-reads a b e) ∙ tied_itself (keys_cmp_total ds) b))
      | false ↦ λ e. sym (never (keys_cmp ds a b) (λ tie. absurd (false≢true (sym e ∙ ap (λ k. same_row k b) (keys-ties ds a b p q tie) ∙ same_row-itself b))))
    ] refl
  where
    never : (o : Ordering) → (o ≡ Equal → ⊥) → is_eq o ≡ false
    never Less h = refl
    never Equal h = absurd (h refl)
    never Greater h = refl

-- ---- places of a group

module _ (ds : List Direction) (keys : List Row) (groups : PeerGroups) (up : IsInWindowOrder ds keys) (are : AreGroups ds keys groups) where
  abbrev start : ℕ → ℕ
  start g = slice_index groups.starts.items g

  number_before : (g k : ℕ) → g < length groups.starts.items → k < length keys → k < start g → peer_group ds keys k < g
  number_before g k h inside low = less_true _ _ (sym (are.cuts g k h inside) ∙ less_yes k (start g) low)

  number_behind : (g k : ℕ) → g < length groups.starts.items → k < length keys → start g ≤ k → g ≤ peer_group ds keys k
  number_behind g k h inside high = less_false _ _ (sym (are.cuts g k h inside) ∙ less_no k (start g) high)

  pub start_rises : (g : ℕ) → g + 1 < length groups.starts.items → start g ≤ start (g + 1)
  start_rises g h = elim (below_or (start (g + 1)) (start g)) [
    | inl low ↦
        let bound = are.within g (omega (arith, h)) in
        let inside : start (g + 1) < length keys = omega (arith, low, bound) in
        let before = number_before g (start (g + 1)) (omega (arith, h)) inside low in
        let behind = number_behind (g + 1) (start (g + 1)) h inside (omega arith) in
        absurd (omega (arith, before, behind))
    | inr high ↦ high
  ]

  pub number_in : (g k : ℕ) → g + 1 < length groups.starts.items → k < length keys → start g ≤ k → k < start (g + 1) → peer_group ds keys k ≡ g
  number_in g k h inside low high =
      let behind = number_behind g k (omega (arith, h)) inside low in
      let before = number_before (g + 1) k h inside high in
      omega (arith, behind, before)

  -- each place is one of its group
  pub placed_in : (k : ℕ) → k < length keys → (start (peer_group ds keys k) ≤ k) × (k < start (peer_group ds keys k + 1))
  placed_in k inside =
      let g = peer_group ds keys k in
      let last = are.last k inside in (
        elim (below_or k (start g)) [ inl h ↦ absurd (let b = number_before g k (omega (arith, last)) inside h in omega (arith, b)) | inr h ↦ h ],
        elim (below_or k (start (g + 1))) [ inl h ↦ h | inr h ↦ absurd (let b = number_behind (g + 1) k last inside h in omega (arith, b)) ],
      )

  module _ (K : Row → Row) (tags : List (Row × ℕ)) (are_keys : keys ≡ map (λ (t : Row × ℕ). K t.0) tags) where
    size : length keys ≡ length tags
    size = ap length are_keys ∙ length-map tags (λ (t : Row × ℕ). K t.0)

    key_of : (k : ℕ) (d : Row × ℕ) → k < length tags → row_at keys k ≡ K (get_or tags k d).0
    key_of k d h = ap (λ l. row_at l k) are_keys ∙ get_or-map (λ (t : Row × ℕ). K t.0) tags k d [] h

    keys_as_numbers : (i k : ℕ) (d e : Row × ℕ) → i < length tags → k < length tags
        → same_row (K (get_or tags i d).0) (K (get_or tags k e).0) ≡ is_eq (nat_cmp (peer_group ds keys i) (peer_group ds keys k))
    keys_as_numbers i k d e hi hk =
        let inside : i < length keys = omega (arith, hi, size) in
        let within : k < length keys = omega (arith, hk, size) in
        let first = sym (key_of i d hi) in
        let second = sym (key_of k e hk) in
        (λ j. same_row (first j) (second j))
        ∙ same_as_tie ds (row_at keys i) (row_at keys k) (up.whole i inside) (up.whole k within)
        ∙ ap is_eq (keys-as_numbers ds keys up i k inside within)

    -- the places of a group are just those whose keys agree with one of them
    pub part_kept : (g k : ℕ) (d : Row × ℕ) → g + 1 < length groups.starts.items → k < length tags → start g ≤ k → k < start (g + 1)
        → filter (λ (s : Row × ℕ). same_row (K (get_or tags k d).0) (K s.0)) tags ≡ part_at tags groups.starts.items g
    part_kept g k d h inside low high =
        let bound = are.within (g + 1) h in
        let here = number_in g k h (omega (arith, inside, size)) low high in
        slice_kept (λ (s : Row × ℕ). same_row (K (get_or tags k d).0) (K s.0)) tags (start g) (start (g + 1)) (start_rises g h) (omega (arith, bound, size))
        (λ j e below.
        let there : j < length tags = omega (arith, below, low, inside) in
        let before = number_before g j (omega (arith, h)) (omega (arith, there, size)) below in
        keys_as_numbers k j d e inside there ∙ lesser_number (peer_group ds keys j) (peer_group ds keys k) (omega (arith, before, here)))
        (λ j e from to.
        let there : j < length tags = omega (arith, to, bound, size) in
        let number = number_in g j h (omega (arith, there, size)) from to in
        keys_as_numbers k j d e inside there ∙ one_number (peer_group ds keys k) (peer_group ds keys j) (here ∙ sym number))
        (λ j e from there.
        let behind = number_behind (g + 1) j h (omega (arith, there, size)) from in
        keys_as_numbers k j d e inside there ∙ greater_number (peer_group ds keys k) (peer_group ds keys j) (omega (arith, behind, here)))

    -- what holds of each row with its place holds of those of a part
    part_all : (P : Row × ℕ → Type 0) (g : ℕ) → g + 1 < length groups.starts.items
        → ((k : ℕ) (d : Row × ℕ) → start g ≤ k → k < start (g + 1) → k < length tags → P (get_or tags k d)) → All P (part_at tags groups.starts.items g)
    part_all P g h each i d inside =
        let bound = are.within (g + 1) h in
        let rises = start_rises g h in
        let long = length-slice tags (start g) (start (g + 1)) rises (omega (arith, bound, size)) in
        subst P (sym (slice_at tags (start g) (start (g + 1)) i d rises (omega (arith, inside, long))))
        (each (start g + i) d (omega arith) (omega (arith, inside, long, rises)) (omega (arith, inside, long, rises, bound, size)))

    module _ (rows : List Row) (same : IsPermutation (tagged 0 rows) tags) (alike : AreAlike (tagged 0 rows) tags) where
      tagged-rows : (n : ℕ) (rows : List Row) → rows_of_tags (tagged n rows) ≡ rows
      tagged-rows n [] = refl
      tagged-rows n (row ∷ rows) = ap (λ l. row ∷ l) (tagged-rows (n + 1) rows)

      same_rows : IsPermutation rows (rows_of_tags tags)
      same_rows = subst (λ l. IsPermutation l (rows_of_tags tags)) (tagged-rows 0 rows) (IsPermutation-map (λ (t : Row × ℕ). t.0) (tagged 0 rows) tags same)

      nothing_more : (n : ℕ) → 0 + n ≡ n
      nothing_more n = omega arith

      all_given : All (λ (t : Row × ℕ). (t.1 < length rows) × (row_at rows t.1 ≡ t.0)) tags
      all_given = All-permutation (λ (t : Row × ℕ). (t.1 < length rows) × (row_at rows t.1 ≡ t.0)) (tagged 0 rows) tags same
          (λ i d h.
          let inside : i < length rows = omega (arith, h, length-tagged 0 rows) in
          let is : get_or (tagged 0 rows) i d ≡ (row_at rows i, i) = tagged_at 0 rows i d [] inside ∙ ap (λ k. (row_at rows i, k)) (nothing_more i) in
          subst (λ (t : Row × ℕ). (t.1 < length rows) × (row_at rows t.1 ≡ t.0)) (sym is) (inside, refl))

      whole_at : (g k : ℕ) (d : Row × ℕ) → g + 1 < length groups.starts.items → k < length tags → start g ≤ k → k < start (g + 1)
          → IsPermutation (filter (λ other. same_row (K (get_or tags k d).0) (K other)) rows) (rows_of_tags (part_at tags groups.starts.items g))
      whole_at g k d h inside low high =
          let q : Row → Bool = λ other. same_row (K (get_or tags k d).0) (K other) in
          let kept : filter q (rows_of_tags tags) ≡ rows_of_tags (part_at tags groups.starts.items g) =
          filter-map q (λ (t : Row × ℕ). t.0) tags ∙ ap rows_of_tags (part_kept g k d h inside low high) in
          subst (IsPermutation (filter q rows)) kept (IsPermutation-filter q rows (rows_of_tags tags) same_rows)

      copies_within : (t : Row × ℕ) (b : Bool) (s : Row × ℕ) → same_row t.0 s.0 ≡ b → (same_row (K t.0) (K s.0) && same_row t.0 s.0) ≡ same_row t.0 s.0
      copies_within t true s e =
          let keys_agree : same_row (K t.0) (K s.0) ≡ true = ap (λ r. same_row (K t.0) (K r)) (sym (same_row-reads t.0 s.0 e)) ∙ same_row-itself (K t.0) in
          ap (λ b. b && same_row t.0 s.0) keys_agree
      copies_within t false s e = ap (λ b. same_row (K t.0) (K s.0) && b) e ∙ none (same_row (K t.0) (K s.0)) ∙ sym e
        where
          none : (b : Bool) → (b && false) ≡ false
          none true = refl
          none false = refl

      copies_at : (g k : ℕ) (d : Row × ℕ) → g + 1 < length groups.starts.items → k < length tags → start g ≤ k → k < start (g + 1)
          → copies (get_or tags k d).0 (part_at tags groups.starts.items g) ≡ copies (get_or tags k d).0 (tagged 0 rows)
      copies_at g k d h inside low high =
          let t = get_or tags k d in
          ap (copies t.0) (sym (part_kept g k d h inside low high))
          ∙ filter-filter (λ (s : Row × ℕ). same_row t.0 s.0) (λ (s : Row × ℕ). same_row (K t.0) (K s.0)) tags
          ∙ agree_on (λ (s : Row × ℕ). same_row (K t.0) (K s.0) && same_row t.0 s.0) (λ (s : Row × ℕ). same_row t.0 s.0) tags (λ i e h. copies_within t _ (get_or tags i e) refl)
          ∙ alike k d inside

      is_partition : (value : Valuation) (window : Window) → K ≡ term_values value window.partition → (g : ℕ) → g + 1 < length groups.starts.items
          → IsPartition value window rows (part_at tags groups.starts.items g)
      is_partition value window is g h = record {
        given = part_all (λ (t : Row × ℕ). (t.1 < length rows) × (row_at rows t.1 ≡ t.0)) g h (λ k d low high inside. all_given k d inside);
        whole = part_all (λ (t : Row × ℕ). IsPermutation (partition_of value window rows t.0) (rows_of_tags (part_at tags groups.starts.items g))) g h
            (λ k d low high inside. subst (λ (J : Row → Row). IsPermutation (filter (λ other. same_row (J (get_or tags k d).0) (J other)) rows) (rows_of_tags (part_at tags groups.starts.items g))) is
            (whole_at g k d h inside low high));
        alike = part_all (λ (t : Row × ℕ). copies t.0 (part_at tags groups.starts.items g) ≡ copies t.0 (tagged 0 rows)) g h (λ k d low high inside. copies_at g k d h inside low high);
      }

      numbered_in : (i : ℕ) → i < length rows → (g : ℕ) × (g + 1 < length groups.starts.items) × Contains (map (λ (t : Row × ℕ). t.1) (part_at tags groups.starts.items g)) i
      numbered_in i h =
          let is : get_or (tagged 0 rows) i ([], i) ≡ (row_at rows i, i) = tagged_at 0 rows i ([], i) [] h ∙ ap (λ k. (row_at rows i, k)) (nothing_more i) in
          let first : Contains (tagged 0 rows) (row_at rows i, i) =
          (i, omega (arith, h, length-tagged 0 rows), tagged_at 0 rows i (row_at rows i, i) [] h ∙ ap (λ k. (row_at rows i, k)) (nothing_more i)) in
          let held = Contains-permutation (tagged 0 rows) tags (row_at rows i, i) same first in
          let k = held.0 in
          let inside : k < length keys = omega (arith, held.1, size) in
          let g = peer_group ds keys k in
          let last = are.last k inside in
          let place = placed_in k inside in
          let bound = are.within (g + 1) last in
          let rises = start_rises g last in
          let long = length-slice tags (start g) (start (g + 1)) rises (omega (arith, bound, size)) in
          let all_long = length-map (part_at tags groups.starts.items g) (λ (t : Row × ℕ). t.1) in
          let there : start g + (k - start g) ≡ k = omega (arith, place.0) in (
            g,
            last,
            (
              k - start g,
              omega (arith, long, all_long, place.0, place.1),
              get_or-map (λ (t : Row × ℕ). t.1) (part_at tags groups.starts.items g) (k - start g) (row_at rows i, i) i (omega (arith, long, place.0, place.1))
                  ∙ ap (λ (t : Row × ℕ). t.1) (slice_at tags (start g) (start (g + 1)) (k - start g) (row_at rows i, i) rises (omega (arith, place.0, place.1))
                  ∙ ap (λ n. get_or tags n (row_at rows i, i)) there ∙ held.2),
            ),
          )

      pub are_partitions : (value : Valuation) (window : Window) → K ≡ term_values value window.partition → ArePartitions value window rows tags groups.starts.items
      are_partitions value window is = record { given = all_given; each = is_partition value window is; all = numbered_in }
