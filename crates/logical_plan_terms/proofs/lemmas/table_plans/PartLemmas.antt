-- Columns and conditions, parted before a table.
use Rattle.std.proofs.Common.{◌≡◌, ◌∙◌, ◌&&◌, ◌+◌, ◌<◌, ◌≤◌, All, Bool, true, false, cond, not, ℕ, suc, List, [], ◌∷◌, ◌++◌, length, map, IsPermutation, refl, sym, ap, subst, arith, None}
use Rattle.std.specs.Prelude.{nat_lt}
use Rattle.std.specs.List.{AllPairs, AllZip, filter, list_all}
use Rattle.std.proofs.lemmas.Bool.{le-leb, le-ltb, lt-leb, lt-ltb, ltb-false, ltb-true}
use Rattle.std.proofs.lemmas.List.{get_or_append_left, length-map, map-append}
use Rattle.std.proofs.lemmas.List.Elements.{All-cons, All-filter, All-head, All-map, All-nil, All-tail, All-weaker, filter_passes}
use Rattle.std.proofs.lemmas.List.Kept.{AllPairs-from_increasing, IsStrictlyIncreasing-filter}
use Rattle.std.proofs.lemmas.List.Sorted.{IsPermutation-filter_both, IsPermutation-map}
use Rattle.values.specs.Datum.{null}
use Rattle.values.specs.Row.{Row}
use Rattle.expr.specs.Columns.{Agree, columns_of}
use Rattle.expr.specs.Conjuncts.{conjuncts}
use Rattle.expr.specs.Filled.{filled}
use Rattle.expr.specs.Term.{Term}
use Rattle.expr.proofs.ColumnLemmas.{depends_on_columns}
use Rattle.semantics.specs.Joins.{pads_left, pads_right}
use Rattle.semantics.specs.OneTable.{shown}
use Rattle.semantics.specs.Query.{From, JoinKind, from_width, full, inner, joined, nothing, right, table, with_inner}
use Rattle.semantics.specs.Sequence.{value_at}
use Rattle.semantics.proofs.ElementLemmas.{AllZip-both}
use Rattle.logical_plan.specs.JoinPlan.{IsEarlyPlan, NeedsOnly, columns_before}
use Rattle.logical_plan.specs.Plan as p
use Rattle.logical_plan.specs.Plan.{PlanData}
use Rattle.logical_plan.specs.Stands.{AreTestsOf, StandsFor, tested}
use Rattle.logical_plan.proofs.RowLemmas.{filter-map}
use Rattle.logical_plan_terms.specs.table_plans.Laws.{ColumnsAreParted}
use Rattle.logical_plan_terms.specs.table_plans.Parted.{ArePlaced, IsParted, columns_from, names_within}

-- ---- columns

-- all of these stand behind
all_from : (count : ℕ) (columns : List ℕ) → All (λ c. count ≤ c) columns → (columns_before count columns ≡ []) × (columns_from count columns ≡ columns)
all_from count [] all = (refl, refl)
all_from count (c ∷ columns) all =
    let here : count ≤ c = All-head (λ c. count ≤ c) c columns all in
    let rest = all_from count columns (All-tail (λ c. count ≤ c) c columns all) in (
      ap (λ b. cond b (c ∷ columns_before count columns) (columns_before count columns)) (le-ltb c count here) ∙ rest.0,
      ap (λ b. cond b (c ∷ columns_from count columns) (columns_from count columns)) (le-leb count c here) ∙ ap (λ columns. c ∷ columns) rest.1,
    )

ascending_parted : (count : ℕ) (columns : List ℕ) → AllPairs (λ x y. x < y) columns → columns ≡ columns_before count columns ++ columns_from count columns
ascending_parted count [] up = refl
ascending_parted count (c ∷ columns) up = by_test (nat_lt c count) refl (ascending_parted count columns behind)
  where
    behind : AllPairs (λ x y. x < y) columns
    behind i j d below within = up (suc i) (suc j) d (omega (arith, below)) (omega (arith, within))

    above : All (λ y. c < y) columns
    above j d within = up 0 (suc j) d (omega arith) (omega (arith, within))

    by_test : (b : Bool) → nat_lt c count ≡ b → columns ≡ columns_before count columns ++ columns_from count columns
        → c ∷ columns ≡ cond b (c ∷ columns_before count columns) (columns_before count columns) ++ columns_from count (c ∷ columns)
    by_test true is rest =
        let short : c < count = ltb-true c count is in
        ap (λ columns. c ∷ columns) rest
        ∙ ap (λ b. c ∷ (columns_before count columns ++ cond b (c ∷ columns_from count columns) (columns_from count columns))) (sym (lt-leb count c short))
    by_test false is rest =
        let past : count ≤ c = ltb-false c count is in
        let all : All (λ y. count ≤ y) (c ∷ columns) =
        All-cons (λ y. count ≤ y) c columns past (All-weaker (λ y. c < y) (λ y. count ≤ y) (λ y below. omega (arith, past, below)) columns above) in
        let parts = all_from count columns (All-tail (λ y. count ≤ y) c columns all) in
        λ i. sym parts.0 i ++ sym (all_from count (c ∷ columns) all).1 i

pub columns_are_parted : ColumnsAreParted
columns_are_parted nothing read up = tt
columns_are_parted (joined from kind source on) read up = (
  ascending_parted (from_width from) read (AllPairs-from_increasing read up),
  columns_are_parted from (columns_before (from_width from) read) (IsStrictlyIncreasing-filter (λ at. nat_lt at (from_width from)) read up),
)
columns_are_parted (with_inner from query) read up = columns_are_parted from read up

-- ---- tests beside what they stand for

pub record IsPaired (R : Term → Term → Type 0) (xs ys : List Term) (zs : List (Term × Term)) : Type 0 where
  pub lefts : map (λ (z : Term × Term). z.0) zs ≡ xs
  pub rights : map (λ (z : Term × Term). z.1) zs ≡ ys
  pub all : All (λ (z : Term × Term). R z.0 z.1) zs

paired : (R : Term → Term → Type 0) (xs ys : List Term) → AllZip R xs ys → (zs : List (Term × Term)) × IsPaired R xs ys zs
paired R [] [] all = ([], record { lefts = refl; rights = refl; all = All-nil (λ (z : Term × Term). R z.0 z.1) })
paired R [] (y ∷ ys) all = absurd all
paired R (x ∷ xs) [] all = absurd all
paired R (x ∷ xs) (y ∷ ys) all =
    let rest = paired R xs ys all.1 in (
      (x, y) ∷ rest.0,
      record {
        lefts = ap (λ xs. x ∷ xs) rest.1.lefts;
        rights = ap (λ ys. y ∷ ys) rest.1.rights;
        all = All-cons (λ (z : Term × Term). R z.0 z.1) (x, y) rest.0 all.0 rest.1.all;
      },
    )

zipped : (R : Term → Term → Type 0) (zs : List (Term × Term)) → All (λ (z : Term × Term). R z.0 z.1) zs
    → AllZip R (map (λ (z : Term × Term). z.0) zs) (map (λ (z : Term × Term). z.1) zs)
zipped R [] all = tt
zipped R (z ∷ zs) all =
    (All-head (λ (z : Term × Term). R z.0 z.1) z zs all, zipped R zs (All-tail (λ (z : Term × Term). R z.0 z.1) z zs all))

-- ---- a table behind those before it

not_true : (b : Bool) → not b ≡ true → b ≡ true → ⊥
not_true true is same = cc
not_true false is same = cc

within_true : (count : ℕ) (columns : List ℕ) → All (λ c. c < count) columns → list_all (λ at. nat_lt at count) columns ≡ true
within_true count [] all = refl
within_true count (c ∷ columns) all =
    (λ i. lt-ltb c count (All-head (λ c. c < count) c columns all) i && within_true count columns (All-tail (λ c. c < count) c columns all) i)

and_both : (a b : Bool) → (a && b) ≡ true → (a ≡ true) × (b ≡ true)
and_both true b is = (refl, is)
and_both false b is = absurd cc

-- what is tested early stands for some conditions, over the columns that are read before a table, and what is tested late for others
record IsDivided (first read : List ℕ) (whole early late : List Term) : Type 0 where
  pub befores : List Term
  pub others : List Term
  pub same : IsPermutation whole (befores ++ others)
  pub need_first : All (NeedsOnly first) befores
  pub stand_before : AreTestsOf first early befores
  pub stand : AreTestsOf read late others
  pub need_more : All (λ e. ¬ All (λ c. c < length first) (columns_of e)) late

module _ (from : From) (at width : ℕ) (on : Term) (read columns : List ℕ)
    (parted : read ≡ columns_before (from_width from) read ++ columns_from (from_width from) read)
    (columns_are : map (λ c. from_width from + c) columns ≡ columns_from (from_width from) read) where
  abbrev first : List ℕ
  first = columns_before (from_width from) read

  abbrev count : ℕ
  count = length first

  value_before : (row : Row) (c : ℕ) → c < count → value_at (shown first row) c ≡ value_at (shown read row) c
  value_before row c within =
      let short : c < length (shown first row) = subst (λ n. c < n) (sym (length-map first (value_at row))) within in
      sym (get_or_append_left (shown first row) (shown (columns_from (from_width from) read) row) null c short)
      ∙ ap (λ row. value_at row c) (sym (ap (λ columns. shown columns row) parted ∙ map-append (value_at row) first (columns_from (from_width from) read)))

  -- what names values before the table alone stands over the columns before it
  early_stands : (e t : Term) → names_within count e ≡ true → StandsFor read e t → StandsFor first e t
  early_stands e t within stands o row =
      depends_on_columns o (shown first row) (shown read row) e (agree (columns_of e) within) ∙ stands o row
    where
      agree : (cs : List ℕ) → list_all (λ at. nat_lt at count) cs ≡ true → Agree (shown first row) (shown read row) cs
      agree [] within = tt
      agree (c ∷ cs) within =
          let parts = and_both (nat_lt c count) (list_all (λ at. nat_lt at count) cs) within in
          (value_before row c (ltb-true c count parts.0), agree cs parts.1)

  module _ (whole all early late : List Term) (tests_are : AreTestsOf read all whole) (parts : IsParted count all early late) where
    abbrev Pair : Type 0
    Pair = Term × Term

    pairs : (zs : List Pair) × IsPaired (StandsFor read) all whole zs
    pairs = paired (StandsFor read) all whole tests_are

    abbrev is_early : Pair → Bool
    is_early z = names_within count z.0

    abbrev is_late : Pair → Bool
    is_late z = not (names_within count z.0)

    abbrev early_pairs : List Pair
    early_pairs = filter is_early pairs.0

    abbrev late_pairs : List Pair
    late_pairs = filter is_late pairs.0

    early_is : map (λ (z : Pair). z.0) early_pairs ≡ early
    early_is =
        sym (filter-map (names_within count) (λ (z : Pair). z.0) pairs.0) ∙ ap (filter (names_within count)) pairs.1.lefts ∙ sym parts.early_are

    late_is : map (λ (z : Pair). z.0) late_pairs ≡ late
    late_is =
        sym (filter-map (λ t. not (names_within count t)) (λ (z : Pair). z.0) pairs.0) ∙ ap (filter (λ t. not (names_within count t))) pairs.1.lefts
        ∙ sym parts.late_are

    both_stand : (zs : List Pair) → All (λ (z : Pair). StandsFor read z.0 z.1) zs → All (λ z. is_early z ≡ true) zs
        → All (λ (z : Pair). StandsFor first z.0 z.1) zs
    both_stand [] all early = All-nil (λ (z : Pair). StandsFor first z.0 z.1)
    both_stand (z ∷ zs) all early =
        All-cons (λ (z : Pair). StandsFor first z.0 z.1) z zs
        (early_stands z.0 z.1 (All-head (λ z. is_early z ≡ true) z zs early) (All-head (λ (z : Pair). StandsFor read z.0 z.1) z zs all))
        (both_stand zs (All-tail (λ (z : Pair). StandsFor read z.0 z.1) z zs all) (All-tail (λ z. is_early z ≡ true) z zs early))

    early_stand : All (λ (z : Pair). StandsFor first z.0 z.1) early_pairs
    early_stand = both_stand early_pairs (All-filter is_early (λ (z : Pair). StandsFor read z.0 z.1) pairs.0 pairs.1.all) (filter_passes is_early pairs.0)

    need : (ts : List Term) → All (λ t. not (names_within count t) ≡ true) ts → All (λ e. ¬ All (λ c. c < count) (columns_of e)) ts
    need ts all =
        All-weaker (λ t. not (names_within count t) ≡ true) (λ e. ¬ All (λ c. c < count) (columns_of e))
        (λ e late within. not_true (names_within count e) late (within_true count (columns_of e) within)) ts all

    divided : IsDivided first read whole early late
    divided = record {
      befores = map (λ (z : Pair). z.1) early_pairs;
      others = map (λ (z : Pair). z.1) late_pairs;
      same =
          subst (λ ts. IsPermutation ts (map (λ (z : Pair). z.1) early_pairs ++ map (λ (z : Pair). z.1) late_pairs)) pairs.1.rights
          (subst (IsPermutation (map (λ (z : Pair). z.1) pairs.0)) (map-append (λ (z : Pair). z.1) early_pairs late_pairs)
          (IsPermutation-map (λ (z : Pair). z.1) pairs.0 (early_pairs ++ late_pairs) (IsPermutation-filter_both is_early is_late (λ z. refl) pairs.0)));
      need_first =
          All-map (NeedsOnly first) (λ (z : Pair). z.1) early_pairs
          (All-weaker (λ (z : Pair). StandsFor first z.0 z.1) (λ (z : Pair). NeedsOnly first z.1) (λ z stands. (z.0, stands)) early_pairs early_stand);
      stand_before =
          subst (λ es. AreTestsOf first es (map (λ (z : Pair). z.1) early_pairs)) early_is (zipped (StandsFor first) early_pairs early_stand);
      stand =
          subst (λ es. AreTestsOf read es (map (λ (z : Pair). z.1) late_pairs)) late_is
          (zipped (StandsFor read) late_pairs (All-filter is_late (λ (z : Pair). StandsFor read z.0 z.1) pairs.0 pairs.1.all));
      need_more =
          subst (λ es. All (λ e. ¬ All (λ c. c < count) (columns_of e)) es) (sym parts.late_are)
          (need (filter (λ t. not (names_within count t)) all) (filter_passes (λ t. not (names_within count t)) all));
    }

  -- a table with the conditions of its ON and others beside it
  pub placed_behind : (kind : JoinKind) → pads_left kind ≡ false → (conditions ons tests before here above : List Term) (left : PlanData)
      → AreTestsOf read ons (conjuncts (filled [] on)) → AreTestsOf read tests conditions → ArePlaced (pads_right kind) count ons tests before here above
      → ((some : List Term) → AreTestsOf first before some → IsEarlyPlan first from some left)
      → IsEarlyPlan read (joined from kind (table at width) on) conditions
      (tested above (p.joined left (record { table = at; columns = columns; tests = here; padded = pads_right kind; search = None })))
  placed_behind inner early conditions ons tests before here above left on_are tests_are placed left_is =
      let both = AllZip-both (StandsFor read) ons tests (conjuncts (filled [] on)) conditions on_are tests_are in
      let d = divided (conjuncts (filled [] on) ++ conditions) (ons ++ tests) before here both placed.0 in
      subst (λ (es : List Term). IsEarlyPlan read (joined from inner (table at width) on) conditions
      (tested es (p.joined left (record { table = at; columns = columns; tests = here; padded = false; search = None })))) (sym placed.1)
      (record {
        at = at;
        width = width;
        source_is = refl;
        left = left;
        columns = columns;
        tests = here;
        plan_is = refl;
        read_is = parted ∙ ap (λ columns. first ++ columns) (sym columns_are);
        early = d.befores;
        late = d.others;
        same = d.same;
        early_are = d.need_first;
        late_are = d.stand;
        tests_need = d.need_more;
        before = left_is d.befores d.stand_before;
      })
  placed_behind JoinKind.left early conditions ons tests before here above left on_are tests_are placed left_is =
      let d = divided conditions tests before above tests_are placed.0 in
      record {
        at = at;
        width = width;
        source_is = refl;
        left = left;
        columns = columns;
        tests = here;
        above = above;
        plan_is = refl;
        read_is = parted ∙ ap (λ columns. first ++ columns) (sym columns_are);
        early = d.befores;
        late = d.others;
        same = d.same;
        early_are = d.need_first;
        tests_are = subst (λ es. AreTestsOf read es (conjuncts (filled [] on))) (sym placed.1) on_are;
        above_are = d.stand;
        above_need = d.need_more;
        before = left_is d.befores d.stand_before;
      }
  placed_behind right early conditions ons tests before here above left on_are tests_are placed left_is = absurd cc
  placed_behind full early conditions ons tests before here above left on_are tests_are placed left_is = absurd cc
