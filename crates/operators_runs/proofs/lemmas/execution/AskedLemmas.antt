-- The pages that a plan which is run may still ask for.
use Rattle.std.proofs.Common.{◌≡◌, Bool, true, false, ℕ, List, map, Result, Ok, Err, IfOk, MatchResult, refl, sym, subst, arith}
use Rattle.values.specs.Row.{Row}
use Rattle.values.specs.declared.fault.Fault.{Fault}
use Rattle.pager.specs.PagerState.{PagerState}
use Rattle.btree.specs.image.Pages.{Pages, WhereSteady, pages_seen}
use Rattle.logical_plan.specs.answers.Sources.{SourceData}
use Rattle.expr.specs.View.{term}
use Rattle.logical_plan.specs.Plan.{PlanData, table_size, work}
use Rattle.operators_scan.specs.scan.Coming.{Asks}
use Rattle.operators_scan.proofs.lemmas.scan.ComingLemmas.{Asks-none}
use Rattle.operators_loops.specs.Basis.{AreStored, Basis, GivesNext, GivesNone, GivesRowOrNone}
use Rattle.operators.specs.Left.{plan_of}
use Rattle.operators_results.specs.Coming.{IsComing, IsResultCause}
use Rattle.operators_results.specs.declared.stream.Results.{Results}
use Rattle.operators_results.specs.distinct_results.Coming.{IsDistinctComing}
use Rattle.operators_results.specs.declared.distinct_results.stream.DistinctResults.{DistinctResults}
use Rattle.logical_plan.specs.answers.Arms.{work_of_arms}
use Rattle.operators_results.specs.compound_results.Compounds.{IsArmsCause}
use Rattle.operators_results.specs.compound_results.InTurn.{IsChainComing, arms_of, over_plan}
use Rattle.operators_results.specs.declared.compound_results.chained.ChainedResults.{ChainedResults}
use Rattle.operators_runs.specs.execution.Columns.{columns_plan}
use Rattle.operators_runs.specs.execution.Given.{HasAhead, HasAsked}
use Rattle.logical_plan.specs.answers.Answers.{answer_data}
use Rattle.logical_plan.specs.declared.answers.Answer.{Answer}
use Rattle.operators_runs.specs.declared.execution.rows.Execution.{Execution}
use Rattle.operators_runs.specs.declared.execution.rows.Execution.TheVariants.{Rows, Distinct, Chained, Waiting, Giving}

-- what is said of sources is said of them whatever plan is run
stored_over : (pages : Pages) (sources : List SourceData) (on : Basis) (plan : PlanData) → AreStored pages sources on → AreStored pages sources (over_plan on plan)
stored_over pages sources on plan has = λ at source found. has at source found

-- ---- a step further

module _ (start now : PagerState) (sources : List SourceData) (row : Row) where
  -- what a call says of the pages that are ahead
  abbrev pub AsksStep : Execution → Execution → Result Bool Fault → Type 0
  AsksStep old new result =
      WhereSteady start (λ pages. (on : Basis) (ahead : ℕ) → AreStored pages sources on → HasAhead pages sources on old ahead
      → IfOk result (HasAsked pages sources on start ahead now new))

  module _ (old new : Results) (plans : plan_of new.op ≡ plan_of old.op) where
    pub rows_ask : (result : Result Bool Fault)
        → WhereSteady start (λ pages. (on : Basis) (rest : List Row) (ahead : ℕ) → AreStored pages sources on → IsComing pages sources on old rest ahead
        → MatchResult result (λ found. GivesRowOrNone found on.local start ahead now rest row (IsComing pages sources on new)) (IsResultCause on (map term old.columns.items)))
        → AsksStep (Rows old) (Rows new) result
    rows_ask (Ok true) says steady on ahead has coming =
        let pages = pages_seen start in
        let plan = plan_of old.op in
        let gives : GivesNext on.local start ahead now coming.0 row (IsComing pages sources (over_plan on plan) new) =
        says steady (over_plan on plan) coming.0 ahead (stored_over pages sources on plan has) coming.1 in (
          gives.left,
          (
            gives.later,
            subst (λ (p : PlanData). IsComing pages sources (over_plan on p) new gives.later gives.left) (sym plans) gives.is_left,
          ),
          gives.asks,
        )
    rows_ask (Ok false) says steady on ahead has coming =
        let plan = plan_of old.op in
        let gives : GivesNone on.local start ahead now coming.0 =
        says steady (over_plan on plan) coming.0 ahead (stored_over (pages_seen start) sources on plan has) coming.1 in
        gives.asks
    rows_ask (Err e) says steady on ahead has coming = tt

  module _ (old new : DistinctResults) (plans : plan_of new.results.op ≡ plan_of old.results.op) where
    pub distinct_ask : (result : Result Bool Fault)
        → WhereSteady start (λ pages. (on : Basis) (rest : List Row) (ahead : ℕ) → AreStored pages sources on → IsDistinctComing pages sources on old rest ahead
        → MatchResult result (λ found. GivesRowOrNone found on.local start ahead now rest row (IsDistinctComing pages sources on new))
        (IsResultCause on (map term old.results.columns.items)))
        → AsksStep (Distinct old) (Distinct new) result
    distinct_ask (Ok true) says steady on ahead has coming =
        let pages = pages_seen start in
        let plan = plan_of old.results.op in
        let gives : GivesNext on.local start ahead now coming.0 row (IsDistinctComing pages sources (over_plan on plan) new) =
        says steady (over_plan on plan) coming.0 ahead (stored_over pages sources on plan has) coming.1 in (
          gives.left,
          (
            gives.later,
            subst (λ (p : PlanData). IsDistinctComing pages sources (over_plan on p) new gives.later gives.left) (sym plans) gives.is_left,
          ),
          gives.asks,
        )
    distinct_ask (Ok false) says steady on ahead has coming =
        let plan = plan_of old.results.op in
        let gives : GivesNone on.local start ahead now coming.0 =
        says steady (over_plan on plan) coming.0 ahead (stored_over (pages_seen start) sources on plan has) coming.1 in
        gives.asks
    distinct_ask (Err e) says steady on ahead has coming = tt

  module _ (old new : ChainedResults) where
    pub chained_ask : (result : Result Bool Fault)
        → WhereSteady start (λ pages. (on : Basis) (rest : List Row) (ahead : ℕ) → AreStored pages sources on → IsChainComing pages sources on old rest ahead
        → MatchResult result (λ found. GivesRowOrNone found on.local start ahead now rest row (IsChainComing pages sources on new)) (IsArmsCause on (arms_of old.arms)))
        → AsksStep (Chained old) (Chained new) result
    chained_ask (Ok true) says steady on ahead has coming =
        let gives : GivesNext on.local start ahead now coming.0 row (IsChainComing (pages_seen start) sources on new) = says steady on coming.0 ahead has coming.1 in
        (gives.left, (gives.later, gives.is_left), gives.asks)
    chained_ask (Ok false) says steady on ahead has coming =
        let gives : GivesNone on.local start ahead now coming.0 = says steady on coming.0 ahead has coming.1 in
        gives.asks
    chained_ask (Err e) says steady on ahead has coming = tt

-- of rows that were gathered no page is asked for
pub giving_ask : (start : PagerState) (sources : List SourceData) (row : Row) (old new : List Row) (found : Bool)
    → AsksStep start start sources row (Giving old) (Giving new) (Ok found)
giving_ask start sources row old new true steady on ahead has none = (0, refl, subst (λ (n : ℕ). Asks on.local start n start 0) (sym none) (Asks-none on.local start 0))
giving_ask start sources row old new false steady on ahead has none = subst (λ (n : ℕ). Asks on.local start n start 0) (sym none) (Asks-none on.local start 0)

-- ---- rows that are gathered

-- they are gathered, and the first of them is given
pub waiting_ask : (start now : PagerState) (sources : List SourceData) (gathered : Answer) (row : Row) (new : List Row) (found : Bool)
    → WhereSteady start (λ pages. (on : Basis) → AreStored pages sources on → Asks on.local start (work_of_arms on.w on.db on.sizes (answer_data gathered).arms) now 0)
    → AsksStep start now sources row (Waiting gathered) (Giving new) (Ok found)
waiting_ask start now sources gathered row new true asks steady on ahead has all =
    (0, refl, subst (λ (n : ℕ). Asks on.local start n now 0) (sym all) (asks steady on has))
waiting_ask start now sources gathered row new false asks steady on ahead has all =
    subst (λ (n : ℕ). Asks on.local start n now 0) (sym all) (asks steady on has)

-- ---- before the first row

-- what comes over a plan asks for no more pages than its work
pub plan_ahead : (on : Basis) (plan own : PlanData) (IsToCome : Basis → List Row → ℕ → Type 0) (all : Basis → List Row) → own ≡ plan
    → ((on : Basis) → on.plan ≡ plan → IsToCome on (all on) (work on.w on.db on.sizes on.plan))
    → (rest : List Row) × IsToCome (over_plan on own) rest (work on.w on.db on.sizes plan)
plan_ahead on plan own IsToCome all plans coming =
    let here = over_plan on own in
    (all here, subst (λ (p : PlanData). IsToCome here (all here) (work on.w on.db on.sizes p)) plans (coming here plans))

-- one table alone is read once
pub columns_work : (on : Basis) (at : ℕ) (places : List ℕ) → work on.w on.db on.sizes (columns_plan at places) ≡ table_size on.sizes at
columns_work on at places = omega arith
