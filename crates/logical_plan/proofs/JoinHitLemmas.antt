-- What a plan of inner and LEFT joins hits, FROM and conditions hit.
use Rattle.std.proofs.Common.{◌≡◌, ◌∙◌, ◌⊎◌, ◌+◌, ◌<◌, inl, inr, All, Any, Contains, true, false, ℕ, zero, suc, List, [], ◌∷◌, ◌++◌, append-nil, length, map, None, IsPermutation, refl, sym, ap, subst, arith}
use Rattle.std.specs.List.{AllZip, filter}
use Rattle.std.proofs.lemmas.List.Elements.{All-contains, All-filter, All-nil, Contains-append_left, Contains-append_right}
use Rattle.std.proofs.lemmas.List.Sorted.{Contains-permutation, IsPermutation-refl, IsPermutation-sym}
use Rattle.values.specs.Database.{Database}
use Rattle.values.specs.Datum.{Datum}
use Rattle.values.specs.Row.{Row}
use Rattle.expr.specs.Conjuncts.{conjuncts}
use Rattle.expr.specs.Filled.{filled}
use Rattle.expr.specs.Meaning.{Overflows, exact}
use Rattle.expr.specs.Term.{Term}
use Rattle.semantics.specs.Hits.{FromHits, IsChoice, IsChosen}
use Rattle.semantics.specs.Joins.{nulls}
use Rattle.semantics.specs.OneTable.{shown}
use Rattle.semantics.specs.Query.{From, JoinKind, Source, from_width, full, inner, joined, nothing, right, table, with_inner}
use Rattle.semantics.specs.Valuation.{with_answers}
use Rattle.logical_plan.specs.JoinPlan.{AreTestsOfNothing, AreWide, AreWideBefore, IsEarlyPlan, NeedsOnly, columns_before, rows_in_turn, seen}
use Rattle.logical_plan.specs.Plan as p
use Rattle.logical_plan.specs.Plan.{Hits, NestedData, PlanData, ReachesOverflow, are_true, rows_of, table_rows}
use Rattle.logical_plan.specs.Stands.{AreTestsOf, tested, tested_once}
use Rattle.logical_plan.proofs.HitLemmas.{any_held, any_here, conjunct_reached, from_map, reach_among, stands_reach}
use Rattle.logical_plan.proofs.JoinLemmas.{before_within, choice_width, early_rows, early_tables, says_left, seen_is, shown_beside, turned_are_choices, wide_before}
use Rattle.logical_plan.proofs.SearchLemmas.{test_reached}

-- where an expression reaches one, its term does
pub terms_reach : (here row : Row) (es ts : List Term) → AllZip (λ e t. exact e here ≡ exact t row) es ts → ReachesOverflow es here → ReachesOverflow ts row
terms_reach here row [] ts all reach = absurd (let within = reach.2 in omega (arith, within))
terms_reach here row (e ∷ es) [] all reach = absurd all
terms_reach here row (e ∷ es) (t ∷ ts) all (zero, x, within, is, overflows) =
    (0, t, omega arith, refl, sym all.0 ∙ ap (λ e. exact e here) is ∙ overflows)
terms_reach here row (e ∷ es) (t ∷ ts) all (suc k, x, within, is, overflows) =
    let rest = terms_reach here row es ts all.1 (k, x, omega (arith, within), is, overflows) in
    (suc rest.0, rest.1, (let w = rest.2 in omega (arith, w)), rest.3, rest.4)

nothing_reaches : (tests conditions : List Term) → AreTestsOfNothing tests conditions → AllZip (λ e t. exact e [] ≡ exact t []) tests conditions
nothing_reaches [] [] all = tt
nothing_reaches [] (t ∷ conditions) all = absurd all
nothing_reaches (test ∷ tests) [] all = absurd all
nothing_reaches (test ∷ tests) (t ∷ conditions) all = (all.0 None, nothing_reaches tests conditions all.1)

pub once_hits : (w : Datum) (db : Database) (tests : List Term) → Hits w db (tested_once tests) → ReachesOverflow tests []
once_hits w db [] hits = absurd hits
once_hits w db (test ∷ tests) (inl none) = absurd none
once_hits w db (test ∷ tests) (inr (zero, row, within, is, reach)) = subst (ReachesOverflow (test ∷ tests)) (sym is) reach
once_hits w db (test ∷ tests) (inr (suc k, row, within, is, reach)) = absurd (omega (arith, within))

either_holds : {X : Type 0} (xs ys : List X) (x : X) → Contains (xs ++ ys) x → Contains xs x ⊎ Contains ys x
either_holds [] ys x held = inr held
either_holds (y ∷ xs) ys x (zero, within, is) = inl (0, omega arith, is)
either_holds (y ∷ xs) ys x (suc k, within, is) = behind (either_holds xs ys x (k, omega (arith, within), is))
  where
    behind : Contains xs x ⊎ Contains ys x → Contains (y ∷ xs) x ⊎ Contains ys x
    behind (inl held) = inl (suc held.0, (let w = held.1 in omega (arith, w)), held.2)
    behind (inr held) = inr held

some_chosen : (width : ℕ) (rows all : List Row) → all ≡ rows → (r : Row) × IsChosen false width all r
some_chosen width [] all is = (nulls width, inr (inr is, refl))
some_chosen width (r ∷ rows) all is = (r, inl (subst (λ rows. Contains rows r) (sym is) (0, omega arith, refl)))

module _ (w : Datum) (db : Database) where
  -- ON hits, or the other conditions reach one on a choice from the sources
  abbrev pub Told : From → List Term → Type 0
  Told from conditions = FromHits w db [] from false ⊎ ((row : Row) × IsChoice w db false from row × ReachesOverflow conditions row)

  module _ (from : From) (at width : ℕ) (on : Term) (read columns : List ℕ) (conditions tests early late : List Term)
      (wide : (row : Row) → IsChoice w db false from row → length row ≡ from_width from) (read_is : read ≡ columns_before (from_width from) read ++ map (λ c. from_width from + c) columns)
      (same : IsPermutation (conjuncts (filled [] on) ++ conditions) (early ++ late))
      (early_are : All (NeedsOnly (columns_before (from_width from) read)) early) (late_are : AreTestsOf read tests late) where
    abbrev whole : From
    whole = joined from inner (table at width) on

    told : (row : Row) → IsChoice w db false whole row → ReachesOverflow (early ++ late) row → Told whole conditions
    told row chosen reach =
        let held = any_held (λ t. Overflows t row) (early ++ late) reach in
        by_part held.0 held.2
        (either_holds (conjuncts (filled [] on)) conditions held.0
        (Contains-permutation (early ++ late) (conjuncts (filled [] on) ++ conditions) held.0 (IsPermutation-sym _ _ same) held.1))
      where
        by_part : (t : Term) → Overflows t row → Contains (conjuncts (filled [] on)) t ⊎ Contains conditions t → Told whole conditions
        by_part t e (inl held) = inl (inr (inr (row, chosen, conjunct_reached w [] on row (any_here (λ t. Overflows t row) (conjuncts (filled [] on)) t held e))))
        by_part t e (inr held) = inr (row, chosen, any_here (λ t. Overflows t row) conditions t held e)

    -- what is reached before the table is reached beside each of its rows
    before_hits : Told from early → Told whole conditions
    before_hits (inl hits) = inl (inl hits)
    before_hits (inr (l, chosen, reach)) =
        let r = some_chosen width (table_rows db at) (table_rows db at) refl in
        let within : All (λ c. c < length l) (columns_before (from_width from) read) =
        subst (λ n. All (λ c. c < n) (columns_before (from_width from) read)) (sym (wide l chosen)) (before_within (from_width from) read) in
        let held = any_held (λ t. Overflows t l) early reach in
        told (l ++ r.0) (l, r.0, refl, chosen, r.1)
        (any_here (λ t. Overflows t (l ++ r.0)) (early ++ late) held.0 (Contains-append_left early late held.0 held.1)
        (says_left l r.0 (columns_before (from_width from) read) within held.0 (All-contains (NeedsOnly (columns_before (from_width from) read)) early held.0 early_are held.1) None
        ∙ held.2))

    -- and what is reached at its rows
    here_hits : (l r : Row) → IsChoice w db false from l → Contains (table_rows db at) r
        → ReachesOverflow tests (shown (columns_before (from_width from) read) l ++ shown columns r) → Told whole conditions
    here_hits l r chosen held reach =
        told (l ++ r) (l, r, refl, chosen, inl held)
        (reach_among (l ++ r) late (early ++ late) (λ t among. Contains-append_right early late t among)
        (stands_reach read tests late (l ++ r) late_are
        (subst (ReachesOverflow tests) (sym (shown_beside l r (from_width from) read columns (wide l chosen) read_is)) reach)))

    nested_hits : (left : PlanData)
        → rows_of w db left ≡ map (seen from (columns_before (from_width from) read)) (filter (are_true w early) (rows_in_turn w db (with_answers w []) from))
        → (Hits w db left → Told from early)
        → Hits w db (p.joined left (record { table = at; columns = columns; tests = tests; padded = false; search = None })) → Told whole conditions
    nested_hits left rows_are before (inl hits) = before_hits (before hits)
    nested_hits left rows_are before (inr reached) =
        let here = test_reached w db left (record { table = at; columns = columns; tests = tests; padded = false; search = None }) refl reached in
        let first = columns_before (from_width from) read in
        let ls = filter (are_true w early) (rows_in_turn w db (with_answers w []) from) in
        let l = any_held (λ l. Any (λ r. ReachesOverflow tests (l ++ r)) (map (shown columns) (table_rows db at))) (rows_of w db left) here in
        let r = any_held (λ r. ReachesOverflow tests (l.0 ++ r)) (map (shown columns) (table_rows db at)) l.2 in
        let row = from_map (shown columns) (table_rows db at) r.0 r.1 in
        let before_row = from_map (seen from first) ls l.0 (subst (λ rows. Contains rows l.0) rows_are l.1) in
        here_hits before_row.0 row.0
        (All-contains (IsChoice w db false from) ls before_row.0
        (All-filter (are_true w early) (IsChoice w db false from) (rows_in_turn w db (with_answers w []) from) (turned_are_choices w db from false)) before_row.1)
        row.1
        (subst (ReachesOverflow tests)
        (λ i. (sym before_row.2 ∙ seen_is from first before_row.0 (before_within (from_width from) read)) i ++ sym row.2 i) r.2)

  module _ (from : From) (at width : ℕ) (on : Term) (read columns : List ℕ) (conditions tests above early late : List Term) (wide_from : AreWide db from)
      (wide : (row : Row) → IsChoice w db false from row → length row ≡ from_width from) (read_is : read ≡ columns_before (from_width from) read ++ map (λ c. from_width from + c) columns)
      (same : IsPermutation conditions (early ++ late)) (early_are : All (NeedsOnly (columns_before (from_width from) read)) early)
      (tests_are : AreTestsOf read tests (conjuncts (filled [] on))) (above_are : AreTestsOf read above late)
      (left : PlanData) (of : IsEarlyPlan (columns_before (from_width from) read) from early left) where
    abbrev padded : From
    padded = joined from JoinKind.left (table at width) on

    abbrev nest : NestedData
    nest = record { table = at; columns = columns; tests = tests; padded = true; search = None }

    -- the join without conditions above it
    bare_plan : IsEarlyPlan read padded early (p.joined left nest)
    bare_plan = record {
      at = at;
      width = width;
      source_is = refl;
      left = left;
      columns = columns;
      tests = tests;
      above = [];
      plan_is = refl;
      read_is = read_is;
      early = early;
      late = [];
      same = subst (IsPermutation early) (sym (append-nil early)) (IsPermutation-refl early);
      early_are = early_are;
      tests_are = tests_are;
      above_are = tt;
      above_need = All-nil _;
      before = of;
    }

    reached : (row : Row) → IsChoice w db false padded row → ReachesOverflow (early ++ late) row → Told padded conditions
    reached row chosen reach =
        inr (row, chosen, reach_among row (early ++ late) conditions (λ t held. Contains-permutation (early ++ late) conditions t (IsPermutation-sym _ _ same) held) reach)

    -- what is reached before the table is reached beside NULLs
    before_padded : Told from early → Told padded conditions
    before_padded (inl hits) = inl (inl hits)
    before_padded (inr (l, chosen, reach)) =
        let within : All (λ c. c < length l) (columns_before (from_width from) read) =
        subst (λ n. All (λ c. c < n) (columns_before (from_width from) read)) (sym (wide l chosen)) (before_within (from_width from) read) in
        let held = any_held (λ t. Overflows t l) early reach in
        reached (l ++ nulls width) (l, nulls width, refl, chosen, inr (inl refl, refl))
        (any_here (λ t. Overflows t (l ++ nulls width)) (early ++ late) held.0 (Contains-append_left early late held.0 held.1)
        (says_left l (nulls width) (columns_before (from_width from) read) within held.0 (All-contains (NeedsOnly (columns_before (from_width from) read)) early held.0 early_are held.1) None
        ∙ held.2))

    -- ON at its rows
    on_hits : (l r : Row) → IsChoice w db false from l → Contains (table_rows db at) r
        → ReachesOverflow tests (shown (columns_before (from_width from) read) l ++ shown columns r) → Told padded conditions
    on_hits l r chosen held reach =
        inl (inr (inr (
          l ++ r,
          (l, r, refl, chosen, inl held),
          conjunct_reached w [] on (l ++ r)
              (stands_reach read tests (conjuncts (filled [] on)) (l ++ r) tests_are
              (subst (ReachesOverflow tests) (sym (shown_beside l r (from_width from) read columns (wide l chosen) read_is)) reach)),
        )))

    join_hits_on : Any (λ l. Any (λ r. ReachesOverflow tests (l ++ r)) (map (shown columns) (table_rows db at))) (rows_of w db left) → Told padded conditions
    join_hits_on here =
        let first = columns_before (from_width from) read in
        let ls = filter (are_true w early) (rows_in_turn w db (with_answers w []) from) in
        let l = any_held (λ l. Any (λ r. ReachesOverflow tests (l ++ r)) (map (shown columns) (table_rows db at))) (rows_of w db left) here in
        let r = any_held (λ r. ReachesOverflow tests (l.0 ++ r)) (map (shown columns) (table_rows db at)) l.2 in
        let row = from_map (shown columns) (table_rows db at) r.0 r.1 in
        let before_row = from_map (seen from first) ls l.0 (subst (λ rows. Contains rows l.0) (early_rows w db from first early left (wide_before db from wide_from) of) l.1) in
        on_hits before_row.0 row.0
        (All-contains (IsChoice w db false from) ls before_row.0
        (All-filter (are_true w early) (IsChoice w db false from) (rows_in_turn w db (with_answers w []) from) (turned_are_choices w db from false)) before_row.1)
        row.1
        (subst (ReachesOverflow tests)
        (λ i. (sym before_row.2 ∙ seen_is from first before_row.0 (before_within (from_width from) read)) i ++ sym row.2 i) r.2)

    -- conditions above it
    above_hits : Any (ReachesOverflow above) (rows_of w db (p.joined left nest)) → Told padded conditions
    above_hits here =
        let rows = filter (are_true w early) (rows_in_turn w db (with_answers w []) padded) in
        let given = any_held (ReachesOverflow above) (rows_of w db (p.joined left nest)) here in
        let row = from_map (shown read) rows given.0 (subst (λ rows. Contains rows given.0) (early_rows w db padded read early (p.joined left nest) wide_from bare_plan) given.1) in
        reached row.0
        (All-contains (IsChoice w db false padded) rows row.0
        (All-filter (are_true w early) (IsChoice w db false padded) (rows_in_turn w db (with_answers w []) padded)
        (turned_are_choices w db padded false)) row.1)
        (reach_among row.0 late (early ++ late) (λ t among. Contains-append_right early late t among)
        (stands_reach read above late row.0 above_are (subst (ReachesOverflow above) (sym row.2) given.2)))

    join_hits_here : (Hits w db left → Told from early) → Hits w db (p.joined left nest) → Told padded conditions
    join_hits_here before (inl hits) = before_padded (before hits)
    join_hits_here before (inr reached) = join_hits_on (test_reached w db left nest refl reached)

    padded_hits : (Hits w db left → Told from early) → (some : List Term) → some ≡ above → Hits w db (tested some (p.joined left nest)) → Told padded conditions
    padded_hits before [] is hits = join_hits_here before hits
    padded_hits before (t ∷ ts) is (inl hits) = join_hits_here before hits
    padded_hits before (t ∷ ts) is (inr here) = above_hits (subst (λ ts. Any (ReachesOverflow ts) (rows_of w db (p.joined left nest))) is here)

  pub early_told : (from : From) (read : List ℕ) (conditions : List Term) (plan : PlanData) → AreWideBefore db from → IsEarlyPlan read from conditions plan
      → Hits w db plan → Told from conditions
  early_told nothing read conditions plan wide of hits =
      inr ([], refl, terms_reach [] [] of.tests conditions (nothing_reaches of.tests conditions of.tests_are) (once_hits w db of.tests (subst (Hits w db) of.plan_is hits)))
  early_told (joined from inner source on) read conditions plan wide of hits =
      subst (λ (s : Source). Told (joined from inner s on) conditions) (sym of.source_is)
      (nested_hits from of.at of.width on read of.columns conditions of.tests of.early of.late
      (λ row chosen. choice_width w db from (early_tables from (columns_before (from_width from) read) of.early of.left of.before) wide false row chosen) of.read_is of.same of.early_are of.late_are of.left
      (early_rows w db from (columns_before (from_width from) read) of.early of.left (wide_before db from wide) of.before)
      (early_told from (columns_before (from_width from) read) of.early of.left (wide_before db from wide) of.before)
      (subst (Hits w db) of.plan_is hits))
  early_told (joined from JoinKind.left source on) read conditions plan wide of hits =
      subst (λ (s : Source). Told (joined from JoinKind.left s on) conditions) (sym of.source_is)
      (padded_hits from of.at of.width on read of.columns conditions of.tests of.above of.early of.late wide
      (λ row chosen. choice_width w db from (early_tables from (columns_before (from_width from) read) of.early of.left of.before) wide false row chosen) of.read_is of.same of.early_are
      of.tests_are of.above_are of.left of.before
      (early_told from (columns_before (from_width from) read) of.early of.left (wide_before db from wide) of.before)
      of.above refl (subst (Hits w db) of.plan_is hits))
  early_told (joined from right source on) read conditions plan wide of hits = absurd of
  early_told (joined from full source on) read conditions plan wide of hits = absurd of
  early_told (with_inner from query) read conditions plan wide of hits = absurd of
