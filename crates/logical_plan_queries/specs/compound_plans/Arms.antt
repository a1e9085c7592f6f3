-- Which SELECTs that operators join have plans, and what these are. (SELECT, "Compound Select Statements")
use Rattle.std.specs.Prelude.{◌≤◌, List, []}
use Rattle.values.specs.Database.{Database}
use Rattle.values.specs.Datum.{Datum}
use Rattle.values.specs.declared.value.Ty.{Ty}
use Rattle.semantics.specs.Body.{values_over}
use Rattle.semantics.specs.Query.{Body, From, Select, compound, select}
use Rattle.semantics.specs.Typed.{BodyHasTypes}
use Rattle.logical_plan.specs.answers.Sources.{IsPlanOf, SourceData}
use Rattle.logical_plan.specs.Plan.{work, TreeSizes}
use Rattle.logical_plan.specs.answers.Arms.{ArmData}
use Rattle.logical_plan.specs.answers.Permitted.{HitsWithin, IsArmOf}
use Rattle.logical_plan_queries.specs.select_plans.Columns.{HaveColumns}
use Rattle.logical_plan_queries.specs.select_plans.Read.{IsWideOf}
use Rattle.logical_plan_queries.specs.select_plans.Served.{IsServedSelect}
use Rattle.logical_plan_queries.specs.compound_plans.Work.{from_work}

-- one of them; ORDER BY stands behind all of them, and has no terms over the rows of one
abbrev pub IsServedArm : From → Select → Type 0
IsServedArm from s = IsServedSelect from s []

-- each of them
abbrev pub AreServed : Body → Type 0
AreServed (select from s) = IsServedArm from s
AreServed (compound body operator from s) = AreServed body × IsServedArm from s

-- Where the tables hold what FROM says of them, the arm has the rows on which the SELECT computes its result columns, in some order,
-- reaches nothing that the SELECT can't reach, and asks for no more pages than its FROM may. Its sources and columns are some of those
-- that have the columns of a catalog over which the SELECT is typed.
pub record IsArmFor (from : From) (s : Select) (arm : ArmData) : Type 0 where
  pub is_arm : (w : Datum) (db : Database) → IsWideOf db from s → IsArmOf w db from s arm
  pub hits : (w : Datum) (db : Database) → IsWideOf db from s → HitsWithin w db from s arm
  pub few : (w : Datum) (db : Database) (sizes : List TreeSizes) → IsWideOf db from s → work w db sizes arm.plan ≤ from_work w db sizes (values_over w db from) from
  pub over : (catalog : List (List Ty)) (sources : List SourceData) → HaveColumns catalog sources → (types : List Ty) → BodyHasTypes catalog (select from s) types
      → IsPlanOf sources arm.plan
