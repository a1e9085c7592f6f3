-- SELECTs that are joined from left to right. (SELECT, "Compound Select Statements")
use Rattle.std.specs.Prelude.{◌⊎◌, ◌+◌, Any, Bool, ℕ, List, if◌then◌else◌, map}
use Rattle.values.specs.Database.{Database}
use Rattle.values.specs.Datum.{Datum}
use Rattle.values.specs.Row.{Row}
use Rattle.logical_plan.specs.answers.Sources.{IsPlanOf, SourceData}
use Rattle.expr.specs.Meaning.{eval}
use Rattle.expr.specs.Term.{Term}
use Rattle.expr.specs.View.{term}
use Rattle.semantics.specs.Query.{Operator}
use Rattle.semantics.specs.Valuation.{term_values}
use Rattle.semantics_names.specs.Statement.{operator_of}
use Rattle.logical_plan.specs.Plan.{Hits, PlanData, ReachesOverflow, rows_of, work, TreeSizes}
use Rattle.logical_plan.specs.PlanView.{plan_data}
use Rattle.windows_groups.specs.distinct_rows.Firsts.{firsts}
use Rattle.logical_plan.specs.answers.Joined.{joined_rows}
use Rattle.logical_plan.specs.declared.answers.Arm.{Arm}
use Rattle.logical_plan.specs.declared.answers.Arms.{Arms}
use Rattle.logical_plan.specs.declared.answers.Arms.TheVariants.{One, Joined'}

-- a plan, the result columns over its rows, and whether each result row stands once
pub record ArmData : Type 0 where
  pub plan : PlanData
  pub columns : List Term
  pub distinct : Bool

-- one arm; arms with another on their right
pub data ArmsData : Type 0 where
  one : ArmData → ArmsData
  joined : ArmsData → Operator → ArmData → ArmsData

abbrev pub arm_data : Arm → ArmData
arm_data arm = record { plan = plan_data arm.plan; columns = map term arm.columns.items; distinct = arm.distinct }

abbrev pub arms_data : Arms → ArmsData
arms_data (One arm) = one (arm_data arm)
arms_data (Joined' p left operator arm) = joined (arms_data left) (operator_of operator) (arm_data arm)

-- the values of result columns on each row
abbrev pub result_rows : Datum → List Term → List Row → List Row
result_rows w columns rows = map (term_values (eval w) columns) rows

abbrev pub each_once_if : Bool → List Row → List Row
each_once_if distinct rows = if distinct then firsts rows else rows

module _ (w : Datum) (db : Database) where
  -- the result rows of an arm
  abbrev pub arm_rows : ArmData → List Row
  arm_rows arm = each_once_if arm.distinct (result_rows w arm.columns (rows_of w db arm.plan))

  -- an arm's rows join those of all arms before it
  abbrev pub rows_of_arms : ArmsData → List Row
  rows_of_arms (one arm) = arm_rows arm
  rows_of_arms (joined left operator arm) = joined_rows operator (rows_of_arms left) (arm_rows arm)

  -- how many pages the arms may ask for, where the trees of the tables have so many
  abbrev pub work_of_arms : List TreeSizes → ArmsData → ℕ
  work_of_arms sizes (one arm) = work w db sizes arm.plan
  work_of_arms sizes (joined left operator arm) = work_of_arms sizes left + work w db sizes arm.plan

  -- the conditions of an arm's plan, or its result columns on one of its rows, reach an operation out of range
  abbrev pub ArmHits : ArmData → Type 0
  ArmHits arm = Hits w db arm.plan ⊎ Any (ReachesOverflow arm.columns) (rows_of w db arm.plan)

  abbrev pub ArmsHit : ArmsData → Type 0
  ArmsHit (one arm) = ArmHits arm
  ArmsHit (joined left operator arm) = ArmsHit left ⊎ ArmHits arm

-- what they read is some of the sources, with columns that these have
abbrev pub ArePlannedOver : List SourceData → ArmsData → Type 0
ArePlannedOver sources (one arm) = IsPlanOf sources arm.plan
ArePlannedOver sources (joined left operator arm) = ArePlannedOver sources left × IsPlanOf sources arm.plan
