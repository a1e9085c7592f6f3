-- The rows that a plan which is run has given, and what is still to come. (SELECT)
use Rattle.std.specs.Prelude.{◌≡◌, ◌⊎◌, ◌^◌, ⊤, Bool, true, false, ℕ, List, [], ◌∷◌, ◌++◌, length, map, None, Some}
use Rattle.values.specs.Database.{Database}
use Rattle.values.specs.Datum.{Datum}
use Rattle.values.specs.Row.{Row}
use Rattle.values.specs.declared.fault.Fault.{Fault}
use Rattle.values.specs.declared.fault.Fault.TheVariants.{Overflow}
use Rattle.pager.specs.Calls.{IsReadFault}
use Rattle.pager.specs.PagerState.{PagerState}
use Rattle.btree.specs.image.Pages.{Pages}
use Rattle.logical_plan.specs.answers.Sources.{IsPlanOf, SourceData}
use Rattle.expr.specs.Term.{Term}
use Rattle.semantics.specs.Answer.{limited, skipped}
use Rattle.expr.specs.View.{term}
use Rattle.logical_plan.specs.Plan.{PlanData}
use Rattle.operators_scan.specs.scan.Coming.{Asks}
use Rattle.operators_loops.specs.Basis.{AreStored, Basis}
use Rattle.operators.specs.Left.{plan_of, steps}
use Rattle.operators_results.specs.Coming.{IsComing}
use Rattle.operators_results.specs.distinct_results.Coming.{IsDistinctComing}
use Rattle.logical_plan.specs.answers.Answers.{AnswerData, answer_data}
use Rattle.logical_plan.specs.answers.Arms.{ArePlannedOver, ArmsData, ArmsHit, work_of_arms}
use Rattle.operators_results.specs.Slices.{sliced}
use Rattle.operators_results.specs.declared.limits.LimitOffset.{LimitOffset}
use Rattle.operators_results.specs.compound_results.InTurn.{IsChainComing, arms_of, over_plan, turn_steps}
use Rattle.operators_results.specs.declared.compound_results.chained.ChainedResults.{ChainedResults}
use Rattle.logical_plan_queries.specs.Answers.{HitsOf, IsAnswerOf, IsPlannedOver, PlannedData, work_of}
use Rattle.logical_plan_queries.specs.select_plans.Laws.{PlanReaches}
use Rattle.operators_runs.specs.declared.execution.rows.Execution.{Execution}
use Rattle.operators_runs.specs.declared.execution.rows.Execution.TheVariants.{Rows, Distinct, Chained, Waiting, Giving}

-- why a plan stops over a steady source: reading failed, or it reaches an operation out of range
abbrev pub IsRowCause : Basis → PlannedData → Fault → Type 0
IsRowCause on planned fault = IsReadFault fault ⊎ ((fault ≡ Overflow) × HitsOf on.w on.db planned)

-- what is to come makes an answer of the rows that were given
pub record Completes (on : Basis) (planned : PlannedData) (IsToCome : List Row → ℕ → Type 0) (given : List Row) : Type 0 where
  pub rest : List Row
  pub ahead : ℕ
  pub answer : IsAnswerOf on.w on.db planned (given ++ rest)
  pub to_come : IsToCome rest ahead

-- Rows that come one by one over this plan, with these result columns, do so whatever is said of the sources that have rows; and
-- what the plan or a result column reaches is reached by what is run.
pub record Comes (pages : Pages) (sources : List SourceData) (planned : PlannedData) (plan : PlanData) (columns : List Term)
    (IsToCome : Basis → List Row → ℕ → Type 0) (given : List Row) : Type 0 where
  pub rows : (on : Basis) → AreStored pages sources on → on.plan ≡ plan → Completes on planned (IsToCome on) given
  pub hits : (w : Datum) (db : Database) → PlanReaches w db plan columns → HitsOf w db planned

-- The same of rows that come one by one over the plans of SELECTs that are run one after the other.
pub record ChainComes (pages : Pages) (sources : List SourceData) (planned : PlannedData) (chained : ChainedResults) (given : List Row) : Type 0 where
  pub rows : (on : Basis) → AreStored pages sources on → Completes on planned (IsChainComing pages sources on chained) given
  pub hits : (w : Datum) (db : Database) → ArmsHit w db (arms_of chained.arms) → HitsOf w db planned

-- These rows were given, and what is to come makes an answer of them: as they come one by one, all of them where they are yet
-- to be gathered, and else those that were gathered.
abbrev pub HasGiven : Pages → List SourceData → PlannedData → Execution → List Row → Type 0
HasGiven pages sources planned (Rows results) given =
    Comes pages sources planned (plan_of results.op) (map term results.columns.items) (λ on. IsComing pages sources on results) given
HasGiven pages sources planned (Distinct distinct) given =
    Comes pages sources planned (plan_of distinct.results.op) (map term distinct.results.columns.items) (λ on. IsDistinctComing pages sources on distinct) given
HasGiven pages sources planned (Chained chained) given = ChainComes pages sources planned chained given
HasGiven pages sources planned (Waiting answer) given = (given ≡ []) × (planned ≡ PlannedData.answer (answer_data answer))
HasGiven pages sources planned (Giving rows) given =
    (on : Basis) → AreStored pages sources on → IsAnswerOf on.w on.db planned (given ++ rows)

-- a row more was given, or those that were are an answer
abbrev pub HasAnswered : Bool → Pages → List SourceData → PlannedData → Execution → List Row → Row → Type 0
HasAnswered true pages sources planned running given row = HasGiven pages sources planned running (given ++ row ∷ [])
HasAnswered false pages sources planned running given row = (on : Basis) → AreStored pages sources on → IsAnswerOf on.w on.db planned given

-- its sources and their columns are some of these
abbrev pub IsRunOver : List SourceData → Execution → Type 0
IsRunOver sources (Rows results) = IsPlanOf sources (plan_of results.op)
IsRunOver sources (Distinct distinct) = IsPlanOf sources (plan_of distinct.results.op)
IsRunOver sources (Chained chained) = ArePlannedOver sources (arms_of chained.arms)
IsRunOver sources (Waiting answer) = ArePlannedOver sources (answer_data answer).arms
IsRunOver sources (Giving rows) = ⊤

-- so many pages may still be asked for: of what is yet to be gathered those that its plan may ask for, and of rows that were gathered
-- none
abbrev pub HasAhead : Pages → List SourceData → Basis → Execution → ℕ → Type 0
HasAhead pages sources on (Rows results) ahead = (rest : List Row) × IsComing pages sources (over_plan on (plan_of results.op)) results rest ahead
HasAhead pages sources on (Distinct distinct) ahead =
    (rest : List Row) × IsDistinctComing pages sources (over_plan on (plan_of distinct.results.op)) distinct rest ahead
HasAhead pages sources on (Chained chained) ahead = (rest : List Row) × IsChainComing pages sources on chained rest ahead
HasAhead pages sources on (Waiting answer) ahead = ahead ≡ work_of_arms on.w on.db on.sizes (answer_data answer).arms
HasAhead pages sources on (Giving rows) ahead = ahead ≡ 0

-- of the pages that were ahead some were asked for, and the others are, or none is behind the last row
abbrev pub HasAsked : Pages → List SourceData → Basis → PagerState → ℕ → PagerState → Execution → Bool → Type 0
HasAsked pages sources on old ahead new running true = (left : ℕ) × HasAhead pages sources on running left × Asks on.local old ahead new left
HasAsked pages sources on old ahead new running false = Asks on.local old ahead new 0

-- LIMIT leaves no further row, or all rows were gathered: no further page is needed
abbrev pub NeedsNone : Execution → Type 0
NeedsNone (Rows results) = results.slice.left ≡ Some 0
NeedsNone (Distinct distinct) = distinct.first.slice.left ≡ Some 0
NeedsNone (Chained chained) = chained.slice.left ≡ Some 0
NeedsNone (Waiting answer) = ⊥
NeedsNone (Giving rows) = ⊤

-- a plan was opened: no row was given, and the pages that it may ask for are ahead
pub record IsOpenedRun (planned : PlannedData) (running : Execution) : Type 0 where
  pub given : (pages : Pages) (sources : List SourceData) → HasGiven pages sources planned running []
  pub over : (sources : List SourceData) → IsPlannedOver sources planned → IsRunOver sources running
  pub ahead : (pages : Pages) (sources : List SourceData) (on : Basis) → HasAhead pages sources on running (work_of on.w on.db on.sizes planned)

-- rows of these arms, of which this slice is left, are those of each answer that gives them as they come and leaves the same of them
abbrev pub IsOpenedOf : ArmsData → LimitOffset → Execution → Type 0
IsOpenedOf arms slice running =
    (a : AnswerData) → a.arms ≡ arms → a.order ≡ None → ((rows : List Row) → sliced slice rows ≡ limited a.limit (skipped a.offset rows))
    → IsOpenedRun (PlannedData.answer a) running

-- a measure that falls with each row, over any source of bytes; no more rows are gathered than there are addresses
abbrev pub steps_left : List SourceData → Execution → ℕ
steps_left sources (Rows results) = steps sources results.op
steps_left sources (Distinct distinct) = steps sources distinct.results.op
steps_left sources (Chained chained) = turn_steps sources chained.arms
steps_left sources (Waiting answer) = 2 ^ 64
steps_left sources (Giving rows) = length rows
