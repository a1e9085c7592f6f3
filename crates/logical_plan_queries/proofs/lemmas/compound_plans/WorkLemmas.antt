-- The plan that is made of a SELECT asks for no more pages than its FROM may.
use Rattle.std.proofs.Common.{◌≡◌, ◌∙◌, ◌+◌, ◌*◌, ◌≤◌, Bool, true, false, ℕ, List, [], ◌∷◌, length, refl, sym, ap, subst, arith, Option, Some, None}
use Rattle.std.specs.List.{filter, sum_by}
use Rattle.std.proofs.lemmas.List.{length-map}
use Rattle.std.proofs.lemmas.List.Sorted.{length_permutation}
use Rattle.std.proofs.lemmas.List.Sums.{count_by-le-length, length-filter, sum_by-cons}
use Rattle.std.proofs.lemmas.Nat.{mul-le}
use Rattle.values.specs.Database.{Database}
use Rattle.values.specs.Datum.{Datum}
use Rattle.values.specs.Row.{Row}
use Rattle.expr.specs.Conjuncts.{conjuncts}
use Rattle.expr.specs.Filled.{filled}
use Rattle.expr.specs.Term.{Term}
use Rattle.semantics.specs.Body.{from_rows, values_over}
use Rattle.semantics.specs.Query.{From, Grouping, JoinKind, Key, Select, Source, WindowCall, from_width, full, inner, joined, nothing, right, table, with_inner}
use Rattle.semantics.specs.Valuation.{with_answers}
use Rattle.logical_plan.specs.JoinPlan.{AreWideBefore, IsEarlyPlan, IsJoinPlan, IsPlanBy, IsWritten, columns_before, has_right, joined_by, rows_in_turn, seen}
use Rattle.logical_plan.specs.Plan as p
use Rattle.logical_plan.specs.Plan.{NestedData, PlanData, are_true, rows_of, table_size, work, TreeSizes}
use Rattle.logical_plan.specs.Stands.{tested}
use Rattle.logical_plan.proofs.JoinLemmas.{AreTables, early_rows, early_tables, no_answers, value_of, wide_before}
use Rattle.logical_plan.proofs.TurnLemmas.{turned}
use Rattle.logical_plan.proofs.WrittenLemmas.{written_rows, written_tables}
use Rattle.logical_plan_queries.specs.select_plans.Made.{IsMadeOver, IsOverRows, IsOverWindows}
use Rattle.logical_plan_queries.specs.select_plans.Read.{IsWideOf, reads_all}
use Rattle.logical_plan_queries.proofs.lemmas.select_plans.BaseLemmas.{wide_by}
use Rattle.logical_plan_terms.specs.table_plans.Input.{input_from}
use Rattle.logical_plan_terms.specs.declared.table_plans.inputs.Input.{Input}
use Rattle.logical_plan_queries.specs.compound_plans.Work.{from_work}

-- so many pages for each row
read_often : (n : ℕ) (rows : List Row) → sum_by (λ (l : Row). n) rows ≡ length rows * n
read_often n [] = omega arith
read_often n (row ∷ rows) =
    let first = sum_by-cons (λ (l : Row). n) row rows in
    let rest = read_often n rows in
    omega (arith, first, rest)

fewer : (p : Row → Bool) (rows : List Row) → length (filter p rows) ≤ length rows
fewer p rows = omega (arith, length-filter p rows, count_by-le-length p rows)

join_tables : (from : From) (read : List ℕ) (conditions : List Term) (plan : PlanData) → IsJoinPlan read from conditions plan → AreTables from
join_tables from read conditions plan of = by_kind (has_right from) of
  where
    by_kind : (b : Bool) → IsPlanBy b read from conditions plan → AreTables from
    by_kind false of = early_tables from read conditions plan of
    by_kind true of = written_tables from read of.below of.below_is

module _ (w : Datum) (db : Database) (sizes : List TreeSizes) where
  work_tested : (tests : List Term) (plan : PlanData) → work w db sizes (tested tests plan) ≡ work w db sizes plan
  work_tested [] plan = refl
  work_tested (test ∷ tests) plan = refl

  abbrev bound : From → ℕ
  bound from = from_work w db sizes (value_of w db) from

  -- in turn there are as many rows
  as_many : (from : From) → length (rows_in_turn w db (value_of w db) from) ≡ length (from_rows w db (value_of w db) from)
  as_many from = length_permutation (from_rows w db (value_of w db) from) (rows_in_turn w db (value_of w db) from) (turned w db (value_of w db) from)

  -- a plan before a source whose rows are some of those of FROM
  module _ (from : From) (left : PlanData) (size : ℕ) (few : work w db sizes left ≤ bound from)
      (rows : length (rows_of w db left) ≤ length (from_rows w db (value_of w db) from)) where
    read_each : work w db sizes left + sum_by (λ (l : Row). size) (rows_of w db left) ≤ bound from + length (from_rows w db (value_of w db) from) * size
    read_each =
        let often = read_often size (rows_of w db left) in
        let most = mul-le (length (rows_of w db left)) size (length (from_rows w db (value_of w db) from)) size rows (omega arith) in
        omega (arith, often, most)

    read_once : work w db sizes left + size ≤ bound from + 1 * size
    read_once = omega arith

  -- ---- inner and LEFT joins

  early_fewer : (from : From) (read : List ℕ) (conditions : List Term) (plan : PlanData) → AreWideBefore db from → IsEarlyPlan read from conditions plan
      → length (rows_of w db plan) ≤ length (from_rows w db (value_of w db) from)
  early_fewer from read conditions plan wide of =
      let rows = rows_in_turn w db (value_of w db) from in
      let same = ap length (early_rows w db from read conditions plan wide of) ∙ length-map (filter (are_true w conditions) rows) (seen from read) in
      let less = fewer (are_true w conditions) rows in
      let many = as_many from in
      omega (arith, same, less, many)

  early_work : (from : From) (read : List ℕ) (conditions : List Term) (plan : PlanData) → AreWideBefore db from → IsEarlyPlan read from conditions plan
      → work w db sizes plan ≤ bound from
  early_work nothing read conditions plan wide of =
      let none : work w db sizes plan ≡ 0 = ap (work w db sizes) of.plan_is ∙ work_tested of.tests p.once in
      omega (arith, none)
  early_work (joined from inner source on) read conditions plan wide of =
      let first = columns_before (from_width from) read in
      let before = wide_before db from wide in
      subst (λ (s : Source). work w db sizes plan ≤ bound (joined from inner s on)) (sym of.source_is)
      (subst (λ (q : PlanData). work w db sizes q ≤ bound (joined from inner (table of.at of.width) on)) (sym of.plan_is)
      (read_each from of.left (table_size sizes of.at) (early_work from first of.early of.left before of.before) (early_fewer from first of.early of.left before of.before)))
  early_work (joined from JoinKind.left source on) read conditions plan wide of =
      let first = columns_before (from_width from) read in
      let before = wide_before db from wide in
      let nest : NestedData = record { table = of.at; columns = of.columns; tests = of.tests; padded = true; search = None } in
      let is : work w db sizes plan ≡ work w db sizes (p.joined of.left nest) = ap (work w db sizes) of.plan_is ∙ work_tested of.above (p.joined of.left nest) in
      subst (λ (s : Source). work w db sizes plan ≤ bound (joined from JoinKind.left s on)) (sym of.source_is)
      (subst (λ (n : ℕ). n ≤ bound (joined from JoinKind.left (table of.at of.width) on)) (sym is)
      (read_each from of.left (table_size sizes of.at) (early_work from first of.early of.left before of.before) (early_fewer from first of.early of.left before of.before)))
  early_work (joined from right source on) read conditions plan wide of = absurd of
  early_work (joined from full source on) read conditions plan wide of = absurd of
  early_work (with_inner from query) read conditions plan wide of = absurd of

  -- ---- where a RIGHT or FULL JOIN is among them

  written_many : (from : From) (read : List ℕ) (plan : PlanData) → AreWideBefore db from → IsWritten read from plan
      → length (rows_of w db plan) ≤ length (from_rows w db (value_of w db) from)
  written_many from read plan wide of =
      let rows = rows_in_turn w db (value_of w db) from in
      let same = ap length (written_rows w db from read plan wide of) ∙ length-map rows (seen from read) in
      let many = as_many from in
      omega (arith, same, many)

  module _ (from : From) (left : PlanData) (at width before : ℕ) (columns : List ℕ) (tests : List Term) (on : Term) (few : work w db sizes left ≤ bound from)
      (rows : length (rows_of w db left) ≤ length (from_rows w db (value_of w db) from)) where
    work_by : (kind : JoinKind) → work w db sizes (joined_by kind left before at columns tests) ≤ bound (joined from kind (table at width) on)
    work_by inner = read_each from left (table_size sizes at) few rows
    work_by JoinKind.left = read_each from left (table_size sizes at) few rows
    work_by right = read_once from left (table_size sizes at) few rows
    work_by full = read_once from left (table_size sizes at) few rows

  written_work : (from : From) (read : List ℕ) (plan : PlanData) → AreWideBefore db from → IsWritten read from plan → work w db sizes plan ≤ bound from
  written_work nothing read plan wide of =
      let none : work w db sizes plan ≡ 0 = ap (work w db sizes) of in
      omega (arith, none)
  written_work (joined from kind source on) read plan wide of =
      let first = columns_before (from_width from) read in
      let before = wide_before db from wide in
      subst (λ (s : Source). work w db sizes plan ≤ bound (joined from kind s on)) (sym of.source_is)
      (subst (λ (q : PlanData). work w db sizes q ≤ bound (joined from kind (table of.at of.width) on)) (sym of.plan_is)
      (work_by from of.left of.at of.width (length first) of.columns of.tests on (written_work from first of.left before of.before)
      (written_many from first of.left before of.before) kind))
  written_work (with_inner from query) read plan wide of = absurd of

  -- ---- the plan of FROM

  join_work : (from : From) (read : List ℕ) (conditions : List Term) (plan : PlanData) → AreWideBefore db from → IsJoinPlan read from conditions plan
      → work w db sizes plan ≤ bound from
  join_work from read conditions plan wide of = by_kind (has_right from) of
    where
      by_kind : (b : Bool) → IsPlanBy b read from conditions plan → work w db sizes plan ≤ bound from
      by_kind false of = early_work from read conditions plan wide of
      by_kind true of =
          let is : work w db sizes plan ≡ work w db sizes of.below = ap (work w db sizes) of.plan_is ∙ work_tested of.tests of.below in
          subst (λ (n : ℕ). n ≤ bound from) (sym is) (written_work from read of.below wide of.below_is)

  -- no inner query stands beside tables
  pub from_work_is : (from : From) → AreTables from → from_work w db sizes (values_over w db from) from ≡ bound from
  from_work_is from tables = ap (λ answers. from_work w db sizes (with_answers w answers) from) (no_answers w db from tables)

  -- ---- groups and windows over it read nothing

  grouped_work : (read : List ℕ) (grouping : Option Grouping) (below : PlanData) (known : List ℕ) (plan : PlanData) → IsOverRows read grouping below known plan
      → work w db sizes plan ≡ work w db sizes below
  grouped_work read None below known plan of = ap (work w db sizes) of.1
  grouped_work read (Some g) below known plan of = ap (work w db sizes) of.1.plan_is

  windowed_work : (calls : List WindowCall) (taken : List ℕ) (below : PlanData) (known : List ℕ) (plan : PlanData) → IsOverWindows calls taken below known plan
      → work w db sizes plan ≡ work w db sizes below
  windowed_work [] taken below known plan of = ap (work w db sizes) of.1
  windowed_work (call ∷ calls) taken below known plan of = ap (work w db sizes) of.1.plan_is

  within : (from : From) (read : List ℕ) (conditions : List Term) (below plan : PlanData) → work w db sizes plan ≡ work w db sizes below
      → AreWideBefore db from → IsJoinPlan read from conditions below → work w db sizes plan ≤ from_work w db sizes (values_over w db from) from
  within from read conditions below plan is wide of =
      subst (λ (n : ℕ). n ≤ from_work w db sizes (values_over w db from) from) (sym is)
      (subst (λ (n : ℕ). work w db sizes below ≤ n) (sym (from_work_is from (join_tables from read conditions below of)))
      (join_work from read conditions below wide of))

  -- the plan that is made of a SELECT asks for no more pages than its FROM may
  pub made_work : (input : Input) (s : Select) (order : List Key) (plan : PlanData) (es : List Term) → IsWideOf db (input_from input) s
      → IsMadeOver input s order plan es → work w db sizes plan ≤ from_work w db sizes (values_over w db (input_from input)) (input_from input)
  made_work input s order plan es wide made =
      within (input_from input) made.read (conjuncts (filled [] s.condition)) made.below plan
      (windowed_work s.windows made.taken made.inputs made.columns plan made.rows_are
      ∙ grouped_work made.read s.grouping made.below made.taken made.inputs made.inputs_are)
      (wide_by (reads_all s.windows s.grouping) db (input_from input) wide) made.below_is
