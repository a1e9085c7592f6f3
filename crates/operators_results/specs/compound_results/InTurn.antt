-- The rows that SELECTs still have to give, one SELECT after the other. (SELECT, "Compound Select Statements")
use Rattle.std.specs.Prelude.{◌≡◌, ◌<◌, ◌+◌, All, Bool, false, IfOk, IsTrue, ℕ, List, [], ◌∷◌, ◌++◌, map, Result, sum_by}
use Rattle.values.specs.Database.{Database}
use Rattle.values.specs.Datum.{Datum}
use Rattle.values.specs.Row.{Row}
use Rattle.values.specs.declared.fault.Fault.{Fault}
use Rattle.btree.specs.image.Pages.{Pages}
use Rattle.logical_plan.specs.answers.Sources.{SourceData}
use Rattle.expr.specs.View.{term}
use Rattle.semantics.specs.Query.{union_all}
use Rattle.logical_plan.specs.Plan.{PlanData, TreeSizes, work}
use Rattle.operators_loops.specs.Basis.{Basis}
use Rattle.operators.specs.Left.{plan_of, steps}
use Rattle.operators_results.specs.Coming.{IsComing}
use Rattle.operators_results.specs.Slices.{sliced}
use Rattle.operators_results.specs.declared.limits.LimitOffset.{LimitOffset}
use Rattle.operators_results.specs.declared.stream.Results.{Results}
use Rattle.logical_plan.specs.answers.Arms.{ArePlannedOver, ArmData, ArmsData, ArmsHit, arm_rows, joined, one}
use Rattle.operators_results.specs.declared.compound_results.chained.ArmsInTurn.{ArmsInTurn}
use Rattle.operators_results.specs.declared.compound_results.chained.ChainedResults.{ChainedResults}

-- what is said of sources, with another plan, which no word of the sources names
abbrev pub over_plan : Basis → PlanData → Basis
over_plan on plan = record on { plan = plan }

-- the arm whose rows these are, all of them
abbrev pub arm_of : Results → ArmData
arm_of results = record { plan = plan_of results.op; columns = map term results.columns.items; distinct = false }

-- arms with those behind them, of which the last is the next
abbrev pub arms_from : ArmsData → List Results → ArmsData
arms_from before [] = before
arms_from before (results ∷ behind) = joined (arms_from before behind) union_all (arm_of results)

-- the arms whose rows are still to be given
abbrev pub arms_of : ArmsInTurn → ArmsData
arms_of arms = arms_from (one (arm_of arms.at_hand)) arms.behind.items

module _ (w : Datum) (db : Database) where
  -- rows, and those of the arms behind
  abbrev pub rows_from : List Row → List Results → List Row
  rows_from rows [] = rows
  rows_from rows (results ∷ behind) = rows_from rows behind ++ arm_rows w db (arm_of results)

  -- so many pages, and those of the arms behind
  abbrev pub work_from : List TreeSizes → ℕ → List Results → ℕ
  work_from sizes here [] = here
  work_from sizes here (results ∷ behind) = work_from sizes here behind + work w db sizes (plan_of results.op)

-- a measure that falls with each row and with each arm that is done, over any source of bytes
abbrev pub turn_steps : List SourceData → ArmsInTurn → ℕ
turn_steps sources arms = steps sources arms.at_hand.op + sum_by (λ results. steps sources results.op + 1) arms.behind.items

-- all rows of an arm are to come
abbrev pub IsWaiting : Pages → List SourceData → Basis → Results → Type 0
IsWaiting pages sources on results =
    IsComing pages sources (over_plan on (plan_of results.op)) results (arm_rows on.w on.db (arm_of results)) (work on.w on.db on.sizes (plan_of results.op))

-- and so are those of all arms
pub record AreWaiting (pages : Pages) (sources : List SourceData) (on : Basis) (arms : ArmsInTurn) : Type 0 where
  pub at_hand : IsWaiting pages sources on arms.at_hand
  pub behind : All (IsWaiting pages sources on) arms.behind.items

-- These rows are to come, and so many pages may still be asked for: those of the arm at hand, and then those of the arms behind it,
-- which give all of theirs.
pub record AreComingOf (pages : Pages) (sources : List SourceData) (on : Basis) (at_hand : Results) (behind : List Results) (rest : List Row) (ahead : ℕ) : Type 0 where
  pub rows : List Row
  pub here : ℕ
  pub coming : IsComing pages sources (over_plan on (plan_of at_hand.op)) at_hand rows here
  pub waiting : All (IsWaiting pages sources on) behind
  pub rest_is : rest ≡ rows_from on.w on.db rows behind
  pub ahead_is : ahead ≡ work_from on.w on.db on.sizes here behind

abbrev pub AreComing : Pages → List SourceData → Basis → ArmsInTurn → List Row → ℕ → Type 0
AreComing pages sources on arms rest ahead = AreComingOf pages sources on arms.at_hand arms.behind.items rest ahead

-- of the arms' rows those are to come that LIMIT and OFFSET leave of all together
pub record IsChainComingOf (pages : Pages) (sources : List SourceData) (on : Basis) (arms : ArmsInTurn) (slice : LimitOffset) (rest : List Row) (ahead : ℕ) : Type 0 where
  pub rows : List Row
  pub coming : AreComing pages sources on arms rows ahead
  pub rest_is : rest ≡ sliced slice rows

abbrev pub IsChainComing : Pages → List SourceData → Basis → ChainedResults → List Row → ℕ → Type 0
IsChainComing pages sources on chained rest ahead = IsChainComingOf pages sources on chained.arms chained.slice rest ahead

-- What a call that gives a row leaves of arms: they read sources that there are, reach nothing that those before the call don't
-- reach, and behind a row there are fewer steps to come.
pub record LeavesArms (sources : List SourceData) (result : Result Bool Fault) (old new : ArmsInTurn) : Type 0 where
  pub over : ArePlannedOver sources (arms_of new)
  pub hits : (w : Datum) (db : Database) → ArmsHit w db (arms_of new) → ArmsHit w db (arms_of old)
  pub steps : IfOk result (λ found. IsTrue found → turn_steps sources new < turn_steps sources old)
