-- What a plan of tables that are joined as they are written hits, FROM and conditions hit.
use Rattle.std.proofs.Common.{◌≡◌, ◌⊎◌, ◌+◌, ◌||◌, inl, inr, Any, Bool, Contains, true, false, refl, ℕ, List, [], ◌∷◌, ◌++◌, length, map, sym, subst, None}
use Rattle.std.proofs.lemmas.List.Elements.{All-contains}
use Rattle.values.specs.Database.{Database}
use Rattle.values.specs.Datum.{Datum}
use Rattle.values.specs.Row.{Row}
use Rattle.expr.specs.Conjuncts.{conjuncts}
use Rattle.expr.specs.Filled.{filled}
use Rattle.expr.specs.Term.{Term}
use Rattle.semantics.specs.Hits.{FromHits, IsChoice}
use Rattle.semantics.specs.Joins.{pads_left}
use Rattle.semantics.specs.OneTable.{shown}
use Rattle.semantics.specs.Query.{From, JoinKind, Source, from_width, full, inner, joined, nothing, right, table, with_inner}
use Rattle.logical_plan.specs.JoinPlan.{AreWideBefore, IsWritten, IsWrittenPlan, columns_before, has_right, joined_by, rows_in_turn}
use Rattle.logical_plan.specs.Plan.{Hits, PlanData, ReachesOverflow, ReachesBeside, rows_of, table_rows}
use Rattle.logical_plan.specs.Stands.{AreTestsOf, tested}
use Rattle.logical_plan.proofs.HitLemmas.{any_held, conjunct_reached, from_map, stands_reach}
use Rattle.logical_plan.proofs.JoinHitLemmas.{Told}
use Rattle.logical_plan.proofs.JoinLemmas.{choice_width, rows_before, shown_beside, turned_are_choices, value_of, wide_before}
use Rattle.logical_plan.proofs.WrittenLemmas.{written_rows, written_tables}
use Rattle.logical_plan.proofs.SearchLemmas.{test_reached}

module _ (w : Datum) (db : Database) where
  hits_by : (kind : JoinKind) (left : PlanData) (before at : ℕ) (columns : List ℕ) (tests : List Term) → Hits w db (joined_by kind left before at columns tests)
      → Hits w db left ⊎ ReachesBeside tests (rows_of w db left) (map (shown columns) (table_rows db at))
  hits_by inner left before at columns tests (inl hits) = inl hits
  hits_by inner left before at columns tests (inr reached) =
      inr (test_reached w db left (record { table = at; columns = columns; tests = tests; padded = false; search = None }) refl reached)
  hits_by JoinKind.left left before at columns tests (inl hits) = inl hits
  hits_by JoinKind.left left before at columns tests (inr reached) =
      inr (test_reached w db left (record { table = at; columns = columns; tests = tests; padded = true; search = None }) refl reached)
  hits_by right left before at columns tests hits = hits
  hits_by full left before at columns tests hits = hits

  -- ON on a row of the sources before a table beside one of the table
  module _ (from : From) (kind : JoinKind) (at width : ℕ) (on : Term) (read columns : List ℕ) (tests : List Term) (padded : Bool)
      (wide : (row : Row) → IsChoice w db (padded || pads_left kind) from row → length row ≡ from_width from)
      (read_is : read ≡ columns_before (from_width from) read ++ map (λ c. from_width from + c) columns)
      (tests_are : AreTestsOf read tests (conjuncts (filled [] on))) where
    abbrev first : List ℕ
    first = columns_before (from_width from) read

    abbrev ls : List Row
    ls = rows_in_turn w db (value_of w db) from

    on_hits : (l r : Row) → IsChoice w db (padded || pads_left kind) from l → Contains (table_rows db at) r → ReachesOverflow tests (shown first l ++ shown columns r)
        → FromHits w db [] (joined from kind (table at width) on) padded
    on_hits l r chosen held reach =
        inr (inr (
          l ++ r,
          (l, r, refl, chosen, inl held),
          conjunct_reached w [] on (l ++ r)
              (stands_reach read tests (conjuncts (filled [] on)) (l ++ r) tests_are
              (subst (ReachesOverflow tests) (sym (shown_beside l r (from_width from) read columns (wide l chosen) read_is)) reach)),
        ))

    pub beside_hits : (left : PlanData) → rows_of w db left ≡ map (shown first) ls
        → ReachesBeside tests (rows_of w db left) (map (shown columns) (table_rows db at)) → FromHits w db [] (joined from kind (table at width) on) padded
    beside_hits left rows_are here =
        let l = any_held (λ l. Any (λ r. ReachesOverflow tests (l ++ r)) (map (shown columns) (table_rows db at))) (rows_of w db left) here in
        let r = any_held (λ r. ReachesOverflow tests (l.0 ++ r)) (map (shown columns) (table_rows db at)) l.2 in
        let row = from_map (shown columns) (table_rows db at) r.0 r.1 in
        let before_row = from_map (shown first) ls l.0 (subst (λ rows. Contains rows l.0) rows_are l.1) in
        on_hits before_row.0 row.0
        (All-contains (IsChoice w db (padded || pads_left kind) from) ls before_row.0 (turned_are_choices w db from (padded || pads_left kind)) before_row.1)
        row.1
        (subst (ReachesOverflow tests) (λ i. sym before_row.2 i ++ sym row.2 i) r.2)

  written_hits : (from : From) (read : List ℕ) (plan : PlanData) (padded : Bool) → AreWideBefore db from → IsWritten read from plan → Hits w db plan
      → FromHits w db [] from padded
  written_hits nothing read plan padded wide of hits = subst (Hits w db) of hits
  written_hits (joined from kind source on) read plan padded wide of hits =
      by_part (λ before. written_hits from (columns_before (from_width from) read) of.left (padded || pads_left kind) (wide_before db from wide) of.before before)
      (hits_by kind of.left (length (columns_before (from_width from) read)) of.at of.columns of.tests (subst (Hits w db) of.plan_is hits))
    where
      by_part : (Hits w db of.left → FromHits w db [] from (padded || pads_left kind))
          → Hits w db of.left ⊎ ReachesBeside of.tests (rows_of w db of.left) (map (shown of.columns) (table_rows db of.at))
          → FromHits w db [] (joined from kind source on) padded
      by_part before (inl hits) = inl (before hits)
      by_part before (inr here) =
          let first = columns_before (from_width from) read in
          subst (λ (s : Source). FromHits w db [] (joined from kind s on) padded) (sym of.source_is)
          (beside_hits from kind of.at of.width on read of.columns of.tests padded
          (λ row chosen. choice_width w db from (written_tables from first of.left of.before) wide (padded || pads_left kind) row chosen) of.read_is of.tests_are
          of.left
          (rows_before w db from read of.left (rows_in_turn w db (value_of w db) from) (written_rows w db from first of.left (wide_before db from wide) of.before))
          here)
  written_hits (with_inner from query) read plan padded wide of hits = absurd of

  -- conditions on the rows of a plan, or the plan
  tested_hits : (tests : List Term) (below : PlanData) → Hits w db (tested tests below) → Hits w db below ⊎ Any (ReachesOverflow tests) (rows_of w db below)
  tested_hits [] below hits = inl hits
  tested_hits (t ∷ tests) below hits = hits

  pub written_told : (from : From) (read : List ℕ) (conditions : List Term) (plan : PlanData) → has_right from ≡ true → AreWideBefore db from
      → IsWrittenPlan read from conditions plan → Hits w db plan → Told w db from conditions
  written_told nothing read conditions plan some wide of hits = absurd cc
  written_told (joined from kind source on) read conditions plan some wide of hits =
      by_part (tested_hits of.tests of.below (subst (Hits w db) of.plan_is hits))
    where
      by_part : Hits w db of.below ⊎ Any (ReachesOverflow of.tests) (rows_of w db of.below) → Told w db (joined from kind source on) conditions
      by_part (inl hits) = inl (written_hits (joined from kind source on) read of.below false wide of.below_is hits)
      by_part (inr here) =
          let whole = joined from kind source on in
          let rows = rows_in_turn w db (value_of w db) whole in
          let given = any_held (ReachesOverflow of.tests) (rows_of w db of.below) here in
          let row = from_map (shown read) rows given.0 (subst (λ rows. Contains rows given.0) (written_rows w db whole read of.below wide of.below_is) given.1) in
          inr (
            row.0,
            All-contains (IsChoice w db false whole) rows row.0 (turned_are_choices w db whole false) row.1,
            stands_reach read of.tests conditions row.0 of.tests_are (subst (ReachesOverflow of.tests) (sym row.2) given.2),
          )
  written_told (with_inner from query) read conditions plan some wide of hits = absurd of.below_is
