-- The rows that result columns are computed on, as a plan has them.
use Rattle.std.proofs.Common.{◌≡◌, ◌∙◌, ◌+◌, ◌≤◌, ◌⊎◌, All, Any, Bool, Contains, ℕ, true, false, List, [], ◌∷◌, ◌++◌, length, map, Option, Some, None, refl, sym, ap, subst, arith, IsPermutation}
use Rattle.std.specs.List.{AllZip, range_with_len}
use Rattle.std.proofs.lemmas.List.Elements.{All-filter, All-head, All-tail, All-weaker}
use Rattle.std.proofs.lemmas.List.FromFn.{length-range_with_len}
use Rattle.values.specs.Database.{Database}
use Rattle.values.specs.Datum.{Datum}
use Rattle.values.specs.Row.{Row}
use Rattle.expr.specs.Filled.{filled}
use Rattle.expr.specs.Term.{Term}
use Rattle.logical_plan_terms.specs.group_plans.Grouped.{IsGroupedOver, group_columns}
use Rattle.logical_plan_terms.specs.group_plans.Laws.{SeesWhere, group_rows_kept}
use Rattle.logical_plan_terms.proofs.lemmas.group_plans.HitLemmas.{grouped_columns_are_hit, grouped_is_hit}
use Rattle.logical_plan_terms.proofs.lemmas.group_plans.RowLemmas.{grouped_has_rows}
use Rattle.logical_plan_terms.proofs.lemmas.group_plans.WidthLemmas.{grouped_say, rows_wide, shown_whole}
use Rattle.semantics.specs.Body.{answers_in, values_over, computed_rows}
use Rattle.semantics.specs.Body as body
use Rattle.semantics.specs.Groups.{group_rows, grouped}
use Rattle.semantics.specs.Hits.{FromHits, IsChoice, SelectHits, where_rows}
use Rattle.semantics.specs.Query.{From, Grouping, Select, WindowCall, from_width, joined, nothing, with_inner}
use Rattle.semantics.specs.Valuation.{holds_on}
use Rattle.semantics.specs.Windows.{windowed}
use Rattle.semantics.proofs.HitLemmas.{from_rows_are_choices}
use Rattle.semantics.proofs.ScanLemmas.{map-identity, windowed-none}
use Rattle.logical_plan_terms.specs.Over.{StandsOver}
use Rattle.logical_plan.specs.JoinPlan as join
use Rattle.logical_plan.specs.JoinPlan.{AreWide, AreWideBefore}
use Rattle.logical_plan.specs.Plan.{Hits, PlanData, ReachesOverflow, rows_of}
use Rattle.logical_plan.proofs.JoinLemmas.{AreTables, choice_width, wide_before}
use Rattle.logical_plan_queries.specs.select_plans.Made.{IsOverRows, IsOverWindows}
use Rattle.logical_plan_queries.specs.select_plans.Read.{IsReadBy, IsWideBy, reads_all}
use Rattle.logical_plan.specs.answers.Permitted.{SaysOf}
use Rattle.logical_plan.proofs.lemmas.answers.ResultLemmas.{where_is_computed}
use Rattle.logical_plan_terms.specs.table_plans.Input.{input_from, seen}
use Rattle.logical_plan_terms.specs.table_plans.TableJoins.{AreTableJoins}
use Rattle.logical_plan_terms.specs.table_plans.Planned.{IsPlanOver}
use Rattle.logical_plan_terms.specs.declared.table_plans.inputs.Input.{Input}
use Rattle.logical_plan_terms.proofs.lemmas.table_plans.HitLemmas.{columns_are_hit, plan_is_hit}
use Rattle.logical_plan_terms.proofs.lemmas.table_plans.RowLemmas.{columns_say, plan_has_bag}
use Rattle.logical_plan_terms.specs.window_plans.Laws.{HasTaken, windows_take}
use Rattle.logical_plan_terms.specs.window_plans.Windowed.{IsWindowedOver, windowed_columns, written_places}
use Rattle.logical_plan_terms.proofs.lemmas.window_plans.HitLemmas.{windowed_columns_are_hit, windowed_is_hit}
use Rattle.logical_plan_terms.proofs.lemmas.window_plans.RowLemmas.{windowed_has_rows, windowed_say}
use Rattle.logical_plan_terms.proofs.lemmas.window_plans.SeenLemmas.{shown_same, written_whole}
use Rattle.logical_plan_queries.proofs.lemmas.select_plans.PlaceLemmas.{places_whole}

-- A plan has, in some order, what is seen of the rows that result columns are computed on. An expression over these columns of it
-- says of what is seen of a row what its term says of the row. What the plan reaches, and what such expressions for the result
-- columns and other terms reach on its rows, the SELECT can reach.
pub record IsBase (w : Datum) (db : Database) (from : From) (s : Select) (columns : List ℕ) (plan : PlanData) : Type 0 where
  pub seen : Row → Row
  pub rows_are : IsPermutation (map seen (computed_rows w db from s)) (rows_of w db plan)
  pub says : (e t : Term) → StandsOver columns 0 e t → SaysOf seen (computed_rows w db from s) e (filled (answers_in w db from) t)
  pub plan_hits : (terms : List Term) → Hits w db plan → FromHits w db (answers_in w db from) from false ⊎ SelectHits w db from s terms
  pub column_hits : (terms es : List Term) → AllZip (StandsOver columns 0) es (s.columns ++ terms) → Any (ReachesOverflow es) (rows_of w db plan) → SelectHits w db from s terms

-- A plan has, in some order, the rows that windows take, of a given number of values, in their places; and what it reaches the SELECT can reach.
record IsInput (w : Datum) (db : Database) (from : From) (s : Select) (width : ℕ) (plan : PlanData) : Type 0 where
  taken : HasTaken w db from s 0 (range_with_len 0 width) plan
  wide : All (λ (row : Row). length row ≡ width) (windows_take w db from s)
  plan_hits : (terms : List Term) → Hits w db plan → FromHits w db (answers_in w db from) from false ⊎ SelectHits w db from s terms

-- no inner query is answered beside these sources
unanswered : (w : Datum) (db : Database) (from : From) → AreTableJoins from → answers_in w db from ≡ []
unanswered w db nothing inner = refl
unanswered w db (joined from kind source on) inner = unanswered w db from inner.0
unanswered w db (with_inner from query) inner = absurd inner

are_tables : (from : From) → AreTableJoins from → AreTables from
are_tables nothing inner = tt
are_tables (joined from kind source on) inner = (are_tables from inner.0, (inner.1.at, inner.1.width, inner.1.source_is))
are_tables (with_inner from query) inner = absurd inner

-- the rows of groups are those that result columns are computed on
groups_are_computed : (w : Datum) (db : Database) (from : From) (s : Select) (g : Grouping) → s.grouping ≡ Some g → s.windows ≡ []
    → group_rows_kept w db from s g ≡ computed_rows w db from s
groups_are_computed w db from s g is windowless =
    sym (ap (λ calls. windowed (values_over w db from) w calls (grouped (values_over w db from) w s.grouping (where_rows w db from s))) windowless
    ∙ windowed-none (values_over w db from) w (grouped (values_over w db from) w s.grouping (where_rows w db from s))
    ∙ ap (λ grouping. grouped (values_over w db from) w grouping (where_rows w db from s)) is)

-- ---- rows of which each column is read

no_values : (row : Row) → length row ≡ 0 → row ≡ []
no_values [] none = refl
no_values (v ∷ row) none = absurd (omega (arith, none))

seen_whole : (from : From) (row : Row) → length row ≡ from_width from → join.seen from (range_with_len 0 (from_width from)) row ≡ row
seen_whole nothing row long = sym (no_values row long)
seen_whole (joined from kind source on) row long = shown_whole (from_width (joined from kind source on)) row long
seen_whole (with_inner from query) row long = seen_whole from row long

all_seen : (from : From) (rows : List Row) → All (λ (row : Row). length row ≡ from_width from) rows
    → map (join.seen from (range_with_len 0 (from_width from))) rows ≡ rows
all_seen from [] wide = refl
all_seen from (row ∷ rows) wide =
    (λ j. seen_whole from row (All-head (λ (row : Row). length row ≡ from_width from) row rows wide) j
    ∷ all_seen from rows (All-tail (λ (row : Row). length row ≡ from_width from) row rows wide) j)

-- the rows that WHERE keeps have as many values as the tables have columns
where_wide : (w : Datum) (db : Database) (from : From) (s : Select) → AreTableJoins from → AreWide db from
    → All (λ (row : Row). length row ≡ from_width from) (where_rows w db from s)
where_wide w db from s inner wide =
    All-filter (holds_on (values_over w db from) s.condition) (λ (row : Row). length row ≡ from_width from) (body.rows_of w db from)
    (All-weaker (IsChoice w db false from) (λ (row : Row). length row ≡ from_width from)
    (λ row is. choice_width w db from (are_tables from inner) wide false row is) (body.rows_of w db from)
    (from_rows_are_choices w db (values_over w db from) from false))

-- ---- windows

windowed_base : (w : Datum) (db : Database) (from : From) (s : Select) (width : ℕ) (below plan : PlanData) → IsInput w db from s width below
    → IsWindowedOver 0 s.windows (range_with_len 0 width) below plan → IsBase w db from s (windowed_columns width s.windows) plan
windowed_base w db from s width below plan input over = record {
  seen = λ row. row;
  rows_are =
      subst (λ (rows : List Row). IsPermutation rows (rows_of w db plan)) (sym (map-identity (computed_rows w db from s)))
      (windowed_has_rows w db from s 0 (range_with_len 0 width) below plan input.taken over);
  says = λ e t stands o row held. windowed_say w db from s width 0 e t input.taken.few input.wide stands o row held;
  plan_hits = λ terms hits. windowed_is_hit w db from s terms 0 (range_with_len 0 width) below plan input.taken over (input.plan_hits terms) hits;
  column_hits = λ terms es stand any. windowed_columns_are_hit w db from s terms es width 0 (range_with_len 0 width) below plan input.taken input.wide over stand any;
}

module _ (w : Datum) (db : Database) (s : Select) (input : Input) (inner : AreTableJoins (input_from input)) (wide : AreWideBefore db (input_from input))
    (read : List ℕ) (below : PlanData) (below_is : IsPlanOver input read s.condition below) where
  abbrev from : From
  from = input_from input

  abbrev whole : List Row
  whole = where_rows w db from s

  -- the plan of FROM and WHERE
  has_where : IsPermutation (map (seen input read) whole) (rows_of w db below)
  has_where = plan_has_bag w db s input read below wide below_is

  few_answers : length (answers_in w db from) ≤ 0
  few_answers = let none : length (answers_in w db from) ≡ 0 = ap length (unanswered w db from inner) in omega (arith, none)

  sees_where : SeesWhere w db from s read 0 below
  sees_where = record {
    seen = seen input read;
    few = few_answers;
    rows_are = has_where;
    says = λ e t stands. columns_say w db s input read e t stands;
  }

  plain_base : s.grouping ≡ None → s.windows ≡ [] → IsBase w db from s read below
  plain_base none windowless =
      let same = where_is_computed w db from s none windowless in record {
        seen = seen input read;
        rows_are = subst (λ (rows : List Row). IsPermutation (map (seen input read) rows) (rows_of w db below)) same has_where;
        says = λ e t stands.
            subst (λ (rows : List Row). SaysOf (seen input read) rows e (filled (answers_in w db from) t)) same (columns_say w db s input read e t stands);
        plan_hits = λ terms hits. plan_is_hit w db s terms input read below wide below_is hits;
        column_hits = λ terms es stand any. columns_are_hit w db s terms es input read below wide none windowless below_is stand any;
      }

  group_base : (g : Grouping) (plan : PlanData) → s.grouping ≡ Some g → s.windows ≡ [] → IsGroupedOver read 0 g below plan → IsBase w db from s (group_columns g) plan
  group_base g plan is windowless over =
      let same = groups_are_computed w db from s g is windowless in record {
        seen = λ row. row;
        rows_are =
            subst (λ (rows : List Row). IsPermutation rows (rows_of w db plan)) (same ∙ sym (map-identity (computed_rows w db from s)))
            (grouped_has_rows w db from s g read 0 below plan sees_where over);
        says = λ e t stands o row held.
            grouped_say w db from s g 0 e t sees_where.few stands o row (subst (λ (rows : List Row). Contains rows row) (sym same) held);
        plan_hits = λ terms hits.
            grouped_is_hit w db from s g terms read 0 below plan is sees_where over (plan_is_hit w db s terms input read below wide below_is) hits;
        column_hits = λ terms es stand any. grouped_columns_are_hit w db from s g terms es read 0 below plan is windowless sees_where over stand any;
      }

  -- windows take the rows of FROM that WHERE keeps
  plain_input : s.grouping ≡ None → AreWide db from → read ≡ range_with_len 0 (from_width from) → IsInput w db from s (from_width from) below
  plain_input none all_wide all =
      let long = where_wide w db from s inner all_wide in
      let take : windows_take w db from s ≡ whole = ap (λ grouping. grouped (values_over w db from) w grouping whole) none in
      let same : map (seen input read) whole ≡ whole = ap (λ columns. map (seen input columns) whole) all ∙ all_seen from whole long in
      let all_long = subst (All (λ (row : Row). length row ≡ from_width from)) (sym take) long in record {
        taken = record {
          few = few_answers;
          rows_are =
              shown_same (from_width from) (windows_take w db from s) (rows_of w db below) all_long
              (subst (λ (rows : List Row). IsPermutation rows (rows_of w db below)) (same ∙ sym take) has_where);
        };
        wide = all_long;
        plan_hits = λ terms hits. plan_is_hit w db s terms input read below wide below_is hits;
      }

  -- windows take the rows of groups
  group_input : (g : Grouping) (plan : PlanData) → s.grouping ≡ Some g → IsGroupedOver read 0 g below plan
      → IsInput w db from s (length g.by + length g.aggregates) plan
  group_input g plan is over =
      let value = values_over w db from in
      let take : windows_take w db from s ≡ group_rows_kept w db from s g = ap (λ grouping. grouped value w grouping whole) is in
      let all_long =
      subst (All (λ (row : Row). length row ≡ length g.by + length g.aggregates)) (sym take)
      (All-filter (holds_on value g.having) (λ (row : Row). length row ≡ length g.by + length g.aggregates) (group_rows value w g whole) (rows_wide value w g whole)) in record {
        taken = record {
          few = few_answers;
          rows_are =
              shown_same (length g.by + length g.aggregates) (windows_take w db from s) (rows_of w db plan) all_long
              (subst (λ (rows : List Row). IsPermutation rows (rows_of w db plan)) (sym take) (grouped_has_rows w db from s g read 0 below plan sees_where over));
        };
        wide = all_long;
        plan_hits = λ terms hits.
            grouped_is_hit w db from s g terms read 0 below plan is sees_where over (plan_is_hit w db s terms input read below wide below_is) hits;
      }

  -- the plan of windows over either
  over_input : (width : ℕ) (call : WindowCall) (calls : List WindowCall) (taken columns : List ℕ) (inputs plan : PlanData) → s.windows ≡ call ∷ calls
      → IsInput w db from s width inputs → taken ≡ range_with_len 0 width → IsOverWindows (call ∷ calls) taken inputs columns plan → IsBase w db from s columns plan
  over_input width call calls taken columns inputs plan is given places over =
      let long : length taken ≡ width = ap length places ∙ length-range_with_len 0 width in
      let written : written_places taken ≡ range_with_len 0 width = written_whole taken (places_whole taken width places) ∙ places in
      subst (λ cs. IsBase w db from s cs plan) (sym (over.0 ∙ (λ i. windowed_columns (long i) (sym is i))))
      (windowed_base w db from s width inputs plan given (subst (λ calls. IsWindowedOver 0 calls (range_with_len 0 width) inputs plan) (sym is)
      (subst (λ (cs : List ℕ). IsWindowedOver 0 (call ∷ calls) cs inputs plan) written over.1)))

  pub base_of : (terms : List Term) (taken columns : List ℕ) (inputs plan : PlanData) → IsReadBy (reads_all s.windows s.grouping) from terms read
      → IsWideBy (reads_all s.windows s.grouping) db from → IsOverRows read s.grouping below taken inputs → IsOverWindows s.windows taken inputs columns plan
      → IsBase w db from s columns plan
  base_of terms taken columns inputs plan are all_wide rows windows = by_parts s.windows s.grouping refl refl are all_wide rows windows
    where
      by_parts : (calls : List WindowCall) (grouping : Option Grouping) → s.windows ≡ calls → s.grouping ≡ grouping → IsReadBy (reads_all calls grouping) from terms read
          → IsWideBy (reads_all calls grouping) db from → IsOverRows read grouping below taken inputs → IsOverWindows calls taken inputs columns plan
          → IsBase w db from s columns plan
      by_parts [] None windowless none are all_wide rows windows =
          subst (λ cs. IsBase w db from s cs plan) (sym (windows.0 ∙ rows.0))
          (subst (λ (p : PlanData). IsBase w db from s read p) (sym (windows.1 ∙ rows.1)) (plain_base none windowless))
      by_parts [] (Some g) windowless is are all_wide rows windows =
          subst (λ cs. IsBase w db from s cs plan) (sym (windows.0 ∙ rows.0))
          (subst (λ (p : PlanData). IsBase w db from s (group_columns g) p) (sym windows.1) (group_base g inputs is windowless rows.1))
      by_parts (call ∷ calls) None some none are all_wide rows windows =
          over_input (from_width from) call calls taken columns inputs plan some
          (subst (λ (p : PlanData). IsInput w db from s (from_width from) p) (sym rows.1) (plain_input none all_wide are)) (rows.0 ∙ are) windows
      by_parts (call ∷ calls) (Some g) some is are all_wide rows windows =
          over_input (length g.by + length g.aggregates) call calls taken columns inputs plan some (group_input g inputs is rows.1) rows.0 windows

-- where the tables that another source stands behind, or all, have rows of as many values as they have columns
pub wide_by : (b : Bool) (db : Database) (sources : From) → IsWideBy b db sources → AreWideBefore db sources
wide_by true db sources wide = wide_before db sources wide
wide_by false db sources wide = wide
