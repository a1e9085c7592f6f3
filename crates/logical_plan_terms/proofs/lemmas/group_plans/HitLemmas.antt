-- What a plan of groups reaches, the SELECT can reach.
use Rattle.std.proofs.Common.{◌≡◌, ◌∙◌, ◌⊎◌, inl, inr, Any, Contains, false, ℕ, zero, suc, List, [], ◌∷◌, ◌++◌, map, Some, None, sym, ap, subst, arith}
use Rattle.std.specs.List.{AllZip}
use Rattle.std.proofs.lemmas.List.Sorted.{Contains-permutation, IsPermutation-sym}
use Rattle.values.specs.Database.{Database}
use Rattle.values.specs.Datum.{Datum}
use Rattle.values.specs.Row.{Row}
use Rattle.expr.specs.Filled.{filled}
use Rattle.expr.specs.Meaning.{Overflows, eval, exact}
use Rattle.expr.specs.Term.{Term}
use Rattle.semantics.specs.Body.{answers_in, select_rows, values_over}
use Rattle.semantics.specs.Body as body
use Rattle.semantics.specs.Groups.{Group, aggregate_result, group_keys, group_of, group_rows, grouped, groups}
use Rattle.semantics.specs.Hits.{AggregateLeaves, FromHits, SelectHits, grouping_terms, where_rows}
use Rattle.semantics.specs.Query.{Aggregate, From, Grouping, Select}
use Rattle.semantics.specs.Times.{same_row}
use Rattle.semantics.specs.Valuation.{term_values}
use Rattle.semantics.specs.Windows.{windowed}
use Rattle.semantics.proofs.ElementLemmas.{AllZip-both}
use Rattle.semantics.proofs.GroupLemmas.{aggregate_result-same, group_keys-same}
use Rattle.semantics.proofs.HitLemmas.{aggregate_is_hit, column_is_hit, group_is_hit, having_is_hit}
use Rattle.semantics.proofs.ScanLemmas.{windowed-none}
use Rattle.expr.proofs.BagLemmas.{IsPermutation-filter}
use Rattle.logical_plan_terms.specs.Over.{StandsOver}
use Rattle.logical_plan.specs.Plan.{Hits, PlanData, ReachesOverflow, grouped as grouped_plan, kept, rows_of}
use Rattle.logical_plan.proofs.HitLemmas.{any_held}
use Rattle.windows_groups.specs.row_groups.Gathered.{IsLeaving, ReachesIn, gathered_rows, groups_in_order}
use Rattle.windows_groups.proofs.lemmas.row_groups.LawLemmas.{gathered_leave_as_groups}
use Rattle.logical_plan_terms.specs.group_plans.Grouped.{AggregateStandsOver, IsGroupedOver, group_columns}
use Rattle.logical_plan_terms.specs.group_plans.Laws.{GroupedColumnsAreHit, GroupedIsHit, SeesWhere, group_rows_kept}
use Rattle.logical_plan_terms.proofs.lemmas.group_plans.RowLemmas.{gathered_same, grouped_has_rows, keys_same, result_seen, seen_grouping, wide}
use Rattle.logical_plan_terms.proofs.lemmas.group_plans.SeenLemmas.{from_map, held_map, partner}
use Rattle.logical_plan_terms.proofs.lemmas.group_plans.WidthLemmas.{grouped_say, wide_says}

-- where an expression reaches an operation out of range, its term does
reach_term : (one other : Row) (answers : List (List Datum)) (es ts : List Term) → AllZip (λ e t. exact e one ≡ exact (filled answers t) other) es ts → ReachesOverflow es one
    → (t : Term) × Contains ts t × (exact (filled answers t) other ≡ None)
reach_term one other answers es ts all reach =
    let held = any_held (λ e. Overflows e one) es reach in
    let whole = partner (λ e t. exact e one ≡ exact (filled answers t) other) es ts held.0 all held.1 in
    (whole.0, whole.1, sym whole.2 ∙ held.2)

stand_all : (read : List ℕ) (inner : ℕ) (one other : Row) (answers : List (List Datum))
    → ((e t : Term) → StandsOver read inner e t → exact e one ≡ exact (filled answers t) other)
    → (es ts : List Term) → AllZip (StandsOver read inner) es ts → AllZip (λ e t. exact e one ≡ exact (filled answers t) other) es ts
stand_all read inner one other answers says [] [] all = tt
stand_all read inner one other answers says [] (t ∷ ts) all = absurd all
stand_all read inner one other answers says (e ∷ es) [] all = absurd all
stand_all read inner one other answers says (e ∷ es) (t ∷ ts) all = (says e t all.0, stand_all read inner one other answers says es ts all.1)

arguments_stand : (read : List ℕ) (inner : ℕ) (ones wholes : List Aggregate) → AllZip (AggregateStandsOver read inner) ones wholes
    → AllZip (StandsOver read inner) (map (λ (a : Aggregate). a.argument) ones) (map (λ (a : Aggregate). a.argument) wholes)
arguments_stand read inner [] [] all = tt
arguments_stand read inner [] (t ∷ ts) all = absurd all
arguments_stand read inner (e ∷ es) [] all = absurd all
arguments_stand read inner (e ∷ es) (t ∷ ts) all = (all.0.argument, arguments_stand read inner es ts all.1)

-- a condition alone
alone_reached : (t : Term) (row : Row) → ReachesOverflow (t ∷ []) row → exact t row ≡ None
alone_reached t row (zero, x, within, is, overflows) = ap (λ e. exact e row) is ∙ overflows
alone_reached t row (suc k, x, within, is, overflows) = absurd (omega (arith, within))

module _ (w : Datum) (db : Database) (from : From) (s : Select) (g : Grouping) (terms : List Term) (read : List ℕ) (inner : ℕ) (below plan : PlanData)
    (is : s.grouping ≡ Some g) (sees : SeesWhere w db from s read inner below) (over : IsGroupedOver read inner g below plan) where
  abbrev answers : List (List Datum)
  answers = answers_in w db from

  abbrev whole : List Row
  whole = where_rows w db from s

  terms_hit : Any (ReachesIn over.terms) (rows_of w db below) → SelectHits w db from s terms
  terms_hit any =
      let held = any_held (ReachesIn over.terms) (rows_of w db below) any in
      let row = from_map sees.seen whole held.0
      (Contains-permutation (rows_of w db below) (map sees.seen whole) held.0 (IsPermutation-sym (map sees.seen whole) (rows_of w db below) sees.rows_are) held.1) in
      let reached = reach_term (sees.seen row.0) row.0 answers (over.terms.by ++ map (λ (a : Aggregate). a.argument) over.terms.aggregates) (grouping_terms g)
      (stand_all read inner (sees.seen row.0) row.0 answers (λ e t stands. sees.says e t stands None row.0 row.1)
      (over.terms.by ++ map (λ (a : Aggregate). a.argument) over.terms.aggregates) (grouping_terms g)
      (AllZip-both (StandsOver read inner) over.terms.by (map (λ (a : Aggregate). a.argument) over.terms.aggregates) g.by (map (λ (a : Aggregate). a.argument) g.aggregates)
      over.by_are (arguments_stand read inner over.terms.aggregates g.aggregates over.aggregates_are)))
      (subst (ReachesIn over.terms) (sym row.2) held.2) in
      group_is_hit w db from s terms g row.0 reached.0 is row.1 reached.1 reached.2

  leaving_hit : Any (IsLeaving w over.terms.aggregates) (groups_in_order w over.terms.by (rows_of w db below)) → SelectHits w db from s terms
  leaving_hit any =
      let value = values_over w db from in
      let seen = seen_grouping w db from s g read inner below sees over.terms over.by_are over.aggregates_are in
      let rows = rows_of w db below in
      let left = gathered_leave_as_groups w seen rows any in
      let held = any_held (AggregateLeaves (eval w) seen) (groups (eval w) over.terms.by rows) left in
      let key = from_map (group_of (eval w) over.terms.by rows) (group_keys (eval w) over.terms.by rows) held.0 held.1 in
      let key_held : Contains (group_keys value g.by whole) key.0 =
      subst (λ keys. Contains keys key.0) (keys_same w db from s g read inner below sees over.terms over.by_are over.aggregates_are)
      (Contains-permutation (group_keys (eval w) over.terms.by rows) (group_keys (eval w) over.terms.by (map sees.seen whole)) key.0
      (IsPermutation-sym (group_keys (eval w) over.terms.by (map sees.seen whole)) (group_keys (eval w) over.terms.by rows)
      (group_keys-same (eval w) over.terms.by (map sees.seen whole) rows sees.rows_are)) key.1) in
      let a = any_held (λ a. aggregate_result (eval w) None a held.0.members ≡ None) over.terms.aggregates held.2 in
      let one = partner (AggregateStandsOver read inner) over.terms.aggregates g.aggregates a.0 over.aggregates_are a.1 in
      let same : aggregate_result (eval w) None a.0 (group_of (eval w) over.terms.by (map sees.seen whole) key.0).members ≡ aggregate_result (eval w) None a.0 held.0.members =
      aggregate_result-same (eval w) None a.0 (group_of (eval w) over.terms.by (map sees.seen whole) key.0).members (group_of (eval w) over.terms.by rows key.0).members
      (IsPermutation-filter (λ row. same_row key.0 (term_values (eval w) over.terms.by row)) (map sees.seen whole) rows sees.rows_are)
      ∙ ap (λ (group : Group). aggregate_result (eval w) None a.0 group.members) key.2 in
      aggregate_is_hit w db from s terms g (group_of value g.by whole key.0) one.0 is
      (held_map (group_of value g.by whole) (group_keys value g.by whole) key.0 key_held) one.1
      (sym (result_seen w db from s g read inner below sees over.terms over.by_are over.aggregates_are None key.0 a.0 one.0 one.2) ∙ same ∙ a.2)

  having_hit : Any (ReachesOverflow (over.test ∷ [])) (gathered_rows w over.terms (rows_of w db below)) → SelectHits w db from s terms
  having_hit any =
      let value = values_over w db from in
      let held = any_held (ReachesOverflow (over.test ∷ [])) (gathered_rows w over.terms (rows_of w db below)) any in
      let row : Contains (group_rows value w g whole) held.0 =
      Contains-permutation (gathered_rows w over.terms (rows_of w db below)) (group_rows value w g whole) held.0
      (IsPermutation-sym (group_rows value w g whole) (gathered_rows w over.terms (rows_of w db below))
      (gathered_same w db from s g read inner below sees over.terms over.by_are over.aggregates_are)) held.1 in
      having_is_hit w db from s terms g held.0 is row
      (sym (wide_says g inner answers over.test g.having sees.few over.having_is None held.0
      (wide w db from s g read inner below sees over.terms over.by_are over.aggregates_are held.0 row)) ∙ alone_reached over.test held.0 held.2)

  by_part : (Hits w db below → FromHits w db (answers_in w db from) from false ⊎ SelectHits w db from s terms) → Hits w db (kept (grouped_plan below over.terms) (over.test ∷ []))
      → FromHits w db (answers_in w db from) from false ⊎ SelectHits w db from s terms
  by_part below_hits (inl (inl hits)) = below_hits hits
  by_part below_hits (inl (inr (inl reached))) = inr (terms_hit reached)
  by_part below_hits (inl (inr (inr leaving))) = inr (leaving_hit leaving)
  by_part below_hits (inr reached) = inr (having_hit reached)

pub grouped_is_hit : GroupedIsHit
grouped_is_hit w db from s g terms read inner below plan is sees over below_hits hits =
    by_part w db from s g terms read inner below plan is sees over below_hits (subst (Hits w db) over.plan_is hits)

-- ---- result columns and terms of ORDER BY

-- the rows that result columns are computed on, without windows
computed : (w : Datum) (db : Database) (from : From) (s : Select) (g : Grouping) → s.grouping ≡ Some g → s.windows ≡ []
    → group_rows_kept w db from s g ≡ select_rows (values_over w db from) w s (body.rows_of w db from)
computed w db from s g is windowless =
    sym (ap (λ calls. windowed (values_over w db from) w calls (grouped (values_over w db from) w s.grouping (where_rows w db from s))) windowless
    ∙ windowed-none (values_over w db from) w (grouped (values_over w db from) w s.grouping (where_rows w db from s))
    ∙ ap (λ grouping. grouped (values_over w db from) w grouping (where_rows w db from s)) is)

pub grouped_columns_are_hit : GroupedColumnsAreHit
grouped_columns_are_hit w db from s g terms es read inner below plan is windowless sees over stand any =
    let answers = answers_in w db from in
    let held = any_held (ReachesOverflow es) (rows_of w db plan) any in
    let row : Contains (group_rows_kept w db from s g) held.0 =
    Contains-permutation (rows_of w db plan) (group_rows_kept w db from s g) held.0
    (IsPermutation-sym (group_rows_kept w db from s g) (rows_of w db plan) (grouped_has_rows w db from s g read inner below plan sees over)) held.1 in
    let reached = reach_term held.0 held.0 answers es (s.columns ++ terms)
    (stand_all (group_columns g) inner held.0 held.0 answers (λ e t stands. grouped_say w db from s g inner e t sees.few stands None held.0 row) es (s.columns ++ terms) stand) held.2 in
    column_is_hit w db from s terms held.0 reached.0
    (subst (λ rows. Contains rows held.0) (computed w db from s g is windowless) row) reached.1 reached.2
