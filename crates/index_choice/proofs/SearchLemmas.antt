-- An entry meets the range of a search exactly where the row's conjuncts are true.
use Rattle.std.proofs.Common.{◌≡◌, ◌≤◌, ◌+◌, ℕ, Bool, true, false, List, [], ◌∷◌, ◌++◌, length, cond, ◌&&◌, map, Option, Some, None, refl, sym, ◌∙◌, arith, get_or}
use Rattle.std.specs.Prelude.{All, option_to_list, slice_index_or}
use Rattle.std.specs.List.{filter, list_all}
use Rattle.std.proofs.lemmas.List.Elements.{All-head, All-tail}
use Rattle.std.proofs.lemmas.List.Sorted.{IsPermutation-map}
use Rattle.std.specs.Ordering.{is_eq}
use Rattle.std.proofs.lemmas.List.Folds.{list_all-append}
use Rattle.std.proofs.Math.Bool.{and-true}
use Rattle.values.specs.Datum.{Datum, null}
use Rattle.expr.specs.Conjuncts.{is_true}
use Rattle.expr.specs.Meaning.{run}
use Rattle.expr.specs.Term.{Term}
use Rattle.btree_cursor.specs.key_ranges.Ranges.{Edge, bounded_columns, holds, is_above, is_below, is_within, from_cut, meets, to_cut}
use Rattle.btree_cursor.proofs.lemmas.key_ranges.BagLemmas.{IsPermutation-filter}
use Rattle.btree_cursor.proofs.lemmas.key_ranges.RangeLemmas.{cuts_are_range, null_meets_nothing}
use Rattle.index_choice.specs.declared.comparisons.Side.{Side}
use Rattle.index_choice.specs.declared.comparisons.Side.TheVariants.{Equal, Lower, Upper}
use Rattle.index_choice.specs.ColumnBounds.{says}
use Rattle.index_choice.specs.Searches.{AreBoundsBy, BeginsWith, IsBoundBy, IsEdgeBy, NullGivesNone, PathGivesCovered, PathIsFilter, PathServesTests, are_true, found_by, terms_of}
use Rattle.index_choice.proofs.BoundLemmas.{bound_says_conjunct}

module _ (o : Option Datum) (row : List Datum) where
  abbrev True : Term → Bool
  True t = is_true (run o row t)

  by_bound : (side : Side) (c : ℕ) (strict : Bool) (value : Datum) (t : Term) → IsBoundBy o row side c strict value t → says side strict (slice_index_or row c null) value ≡ True t
  by_bound side c strict value t by =
      rw (← by.side_is, ← by.column_is, ← by.strict_is) (sym (bound_says_conjunct t by.bound by.among o row value by.value_is))

  -- an edge of the column behind the equal ones, the first of an entry's rest
  module _ (side : Side) (within : Option Edge → Datum → Bool) (anything : (x : Datum) → within None x ≡ true)
      (something : (edge : Edge) (x : Datum) → within (Some edge) x ≡ says side edge.strict x edge.value) where
    by_edge : (columns : List ℕ) (edge : Option Edge) (t : Option Term) (entry : List Datum) → IsEdgeBy o row side columns edge t → BeginsWith o row columns entry
        → within edge (slice_index_or entry 0 null) ≡ list_all True (option_to_list t)
    by_edge columns None None entry by begins = anything (slice_index_or entry 0 null)
    by_edge columns None (Some t) entry by begins = absurd by
    by_edge [] (Some edge) None entry by begins = absurd by
    by_edge [] (Some edge) (Some t) entry by begins = absurd by
    by_edge (c ∷ columns) (Some edge) None entry by begins = absurd by
    by_edge (c ∷ columns) (Some edge) (Some t) [] by begins = absurd begins
    by_edge (c ∷ columns) (Some edge) (Some t) (x ∷ rest) by begins =
        something edge x ∙ rw begins.0 (by_bound side c edge.strict edge.value t by ∙ sym (and-true (True t)))

  above_edge : (columns : List ℕ) (edge : Option Edge) (t : Option Term) (entry : List Datum) → IsEdgeBy o row Lower columns edge t → BeginsWith o row columns entry
      → is_above edge (slice_index_or entry 0 null) ≡ list_all True (option_to_list t)
  above_edge = by_edge Lower is_above (λ x. refl) (λ edge x. refl)

  below_edge : (columns : List ℕ) (edge : Option Edge) (t : Option Term) (entry : List Datum) → IsEdgeBy o row Upper columns edge t → BeginsWith o row columns entry
      → is_below edge (slice_index_or entry 0 null) ≡ list_all True (option_to_list t)
  below_edge = by_edge Upper is_below (λ x. refl) (λ edge x. refl)

  module _ (l u : Option Edge) (low up : Option Term) where
    abbrev edge_terms : List Term
    edge_terms = option_to_list low ++ option_to_list up

    meets_true : (columns : List ℕ) (equal : List Datum) (ts : List Term) (entry : List Datum)
        → AreBoundsBy o row columns equal ts l u low up → BeginsWith o row columns entry → meets equal l u entry ≡ list_all True (ts ++ edge_terms)
    meets_true columns [] [] entry by begins =
        rw (above_edge columns l low entry by.0 begins, below_edge columns u up entry by.1 begins) (sym (list_all-append True (option_to_list low) (option_to_list up)))
    meets_true columns [] (t ∷ ts) entry by begins = absurd by
    meets_true [] (value ∷ equal) ts entry by begins = absurd by
    meets_true (c ∷ columns) (value ∷ equal) [] entry by begins = absurd by
    meets_true (c ∷ columns) (value ∷ equal) (t ∷ ts) [] by begins = absurd begins
    meets_true (c ∷ columns) (value ∷ equal) (t ∷ ts) (x ∷ rest) by begins =
        let first : holds is_eq x value ≡ True t = rw begins.0 (by_bound Equal c false value t by.0) in
        let later : meets equal l u rest ≡ list_all True (ts ++ edge_terms) = meets_true columns equal ts rest by.1 begins.1 in
        rw (first, later) refl

    -- so it looks at no more columns than the entry has
    narrow : (columns : List ℕ) (equal : List Datum) (ts : List Term) (entry : List Datum)
        → AreBoundsBy o row columns equal ts l u low up → BeginsWith o row columns entry → length equal + bounded_columns l u ≤ length entry
    narrow columns [] [] entry by begins = at_edge columns l u low up entry by.0 by.1 begins
      where
        at_edge : (columns : List ℕ) (l u : Option Edge) (low up : Option Term) (entry : List Datum) → IsEdgeBy o row Lower columns l low → IsEdgeBy o row Upper columns u up
            → BeginsWith o row columns entry → 0 + bounded_columns l u ≤ length entry
        at_edge columns None None low up entry a b begins = omega arith
        at_edge [] (Some l) u None up entry a b begins = absurd a
        at_edge [] (Some l) u (Some t) up entry a b begins = absurd a
        at_edge [] None (Some u) low None entry a b begins = absurd b
        at_edge [] None (Some u) low (Some t) entry a b begins = absurd b
        at_edge (c ∷ columns) l u low up [] a b begins = absurd begins
        at_edge (c ∷ columns) None (Some u) low up (x ∷ rest) a b begins = omega arith
        at_edge (c ∷ columns) (Some l) None low up (x ∷ rest) a b begins = omega arith
        at_edge (c ∷ columns) (Some l) (Some u) low up (x ∷ rest) a b begins = omega arith
    narrow columns [] (t ∷ ts) entry by begins = absurd by
    narrow [] (value ∷ equal) ts entry by begins = absurd by
    narrow (c ∷ columns) (value ∷ equal) [] entry by begins = absurd by
    narrow (c ∷ columns) (value ∷ equal) (t ∷ ts) [] by begins = absurd begins
    narrow (c ∷ columns) (value ∷ equal) (t ∷ ts) (x ∷ rest) by begins = omega (arith, narrow columns equal ts rest by.1 begins.1)

pub null_gives_none : NullGivesNone
null_gives_none o row columns search range entry by begins n =
    sym (meets_true o row range.lower range.upper search.lower search.upper columns range.equal search.equal entry by begins) ∙ null_meets_nothing range entry n

-- the rows of the entries of those that are covered
module _ (covered chosen : List Datum → Bool) (entry_of fetch : List Datum → List Datum) (within : List Datum → Bool) where
  kept : (rows : List (List Datum)) → All (λ row. within (entry_of row) ≡ chosen row) rows → All (λ row. fetch (entry_of row) ≡ row) rows
      → map fetch (filter within (map entry_of (filter covered rows))) ≡ filter (λ row. covered row && chosen row) rows
  kept [] a c = refl
  kept (row ∷ rows) a c =
      by-cover (covered row) (chosen row) refl refl (All-head (λ r. within (entry_of r) ≡ chosen r) row rows a) (All-head (λ r. fetch (entry_of r) ≡ r) row rows c)
      (kept rows (All-tail (λ r. within (entry_of r) ≡ chosen r) row rows a) (All-tail (λ r. fetch (entry_of r) ≡ r) row rows c))
    where
      by-cover : (v h : Bool) → covered row ≡ v → chosen row ≡ h → within (entry_of row) ≡ chosen row → fetch (entry_of row) ≡ row
          → map fetch (filter within (map entry_of (filter covered rows))) ≡ filter (λ row. covered row && chosen row) rows
          → map fetch (filter within (map entry_of (cond v (row ∷ filter covered rows) (filter covered rows))))
          ≡ cond (v && h) (row ∷ filter (λ row. covered row && chosen row) rows) (filter (λ row. covered row && chosen row) rows)
      by-cover true true e k agree back rest = rw (agree, k, back, rest) refl
      by-cover true false e k agree back rest = rw (agree, k) rest
      by-cover false h e k agree back rest = rest

-- a filter after one that keeps all that it keeps
filter_after : (tests keeps : List Datum → Bool) (rows : List (List Datum)) → All (λ row. tests row ≡ true → keeps row ≡ true) rows
    → filter tests (filter keeps rows) ≡ filter tests rows
filter_after tests keeps [] all = refl
filter_after tests keeps (row ∷ rows) all =
    by-test (tests row) (keeps row) refl refl (All-head (λ r. tests r ≡ true → keeps r ≡ true) row rows all)
    (filter_after tests keeps rows (All-tail (λ r. tests r ≡ true → keeps r ≡ true) row rows all))
  where
    by-test : (t k : Bool) → tests row ≡ t → keeps row ≡ k → (tests row ≡ true → keeps row ≡ true) → filter tests (filter keeps rows) ≡ filter tests rows
        → filter tests (cond k (row ∷ filter keeps rows) (filter keeps rows)) ≡ cond t (row ∷ filter tests rows) (filter tests rows)
    by-test true true e g h rest = rw (e, rest) refl
    by-test true false e g h rest = cc (h e)
    by-test false true e g h rest = rw (e, rest) refl
    by-test false false e g h rest = rest

-- filters that agree
same_filter : (p q : List Datum → Bool) (rows : List (List Datum)) → All (λ row. p row ≡ q row) rows → filter p rows ≡ filter q rows
same_filter p q [] all = refl
same_filter p q (row ∷ rows) all =
    let here : p row ≡ q row = All-head (λ r. p r ≡ q r) row rows all in
    let rest = same_filter p q rows (All-tail (λ r. p r ≡ q r) row rows all) in
    rw (here, rest) refl

pub path_gives_covered : PathGivesCovered
path_gives_covered descends o full columns search range rows entries covered entry_of fetch path sound =
    let within = is_within descends (from_cut descends range) (to_cut descends range) in
    let chosen : List Datum → Bool = λ row. are_true o (full row) (terms_of search) in
    let agree : All (λ row. within (entry_of row) ≡ chosen row) rows = λ k d lt.
    let row = get_or rows k d in
    let by = path.bounds k d lt in
    let begins = path.begins k d lt in
    cuts_are_range descends range (entry_of row) sound (narrow o (full row) range.lower range.upper search.lower search.upper columns range.equal search.equal (entry_of row) by begins)
    ∙ meets_true o (full row) range.lower range.upper search.lower search.upper columns range.equal search.equal (entry_of row) by begins in
    let bag = IsPermutation-map fetch (filter within entries) (filter within (map entry_of (filter covered rows)))
    (IsPermutation-filter within entries (map entry_of (filter covered rows)) path.entries) in
    rw (kept covered chosen entry_of fetch within rows agree path.back) at bag

pub path_is_filter : PathIsFilter
path_is_filter descends o full columns search range rows entries covered entry_of fetch path sound covers =
    let chosen : List Datum → Bool = λ row. are_true o (full row) (terms_of search) in
    let bag = path_gives_covered descends o full columns search range rows entries covered entry_of fetch path sound in
    let same : filter (λ row. covered row && chosen row) rows ≡ filter chosen rows
    = same_filter (λ row. covered row && chosen row) chosen rows (λ k d lt. and_same (covered (get_or rows k d)) (chosen (get_or rows k d)) (covers k d lt)) in
    rw same at bag
  where
    and_same : (c h : Bool) → (h ≡ true → c ≡ true) → (c && h) ≡ h
    and_same true h covers = refl
    and_same false true covers = cc (covers refl)
    and_same false false covers = refl

pub path_serves_tests : PathServesTests
path_serves_tests descends o full columns search range rows entries covered entry_of fetch tests path sound own covers =
    let chosen : List Datum → Bool = λ row. are_true o (full row) (terms_of search) in
    let tested : List Datum → Bool = λ row. are_true o (full row) tests in
    let found = found_by descends range fetch entries in
    let bag = IsPermutation-filter tested found (filter (λ row. covered row && chosen row) rows)
    (path_gives_covered descends o full columns search range rows entries covered entry_of fetch path sound) in
    let both : All (λ row. tested row ≡ true → (covered row && chosen row) ≡ true) rows
    = λ k d lt h. rw (covers k d lt h, own k d lt h) refl in
    rw (filter_after tested (λ row. covered row && chosen row) rows both) at bag
