-- The plan of SELECTs that operators join, or of one, in no order or in that of result columns.
use Rattle.std.proofs.Common.{◌≤◌, inl, List, IfOk, MatchOption, Option, Some, None, Result, Ok, Err, arith}
use Rattle.values.specs.Database.{Database}
use Rattle.values.specs.Datum.{Datum}
use Rattle.values.specs.declared.value.Ty.{Ty}
use Rattle.logical_plan_queries.specs.Served.{IsServed}
use Rattle.logical_plan_queries.specs.compound_plans.Arms.{AreServed, IsArmFor}
use Rattle.logical_plan_queries.specs.compound_plans.Work.{selects_work}
use Rattle.logical_plan.specs.answers.Arms.{ArePlannedOver, ArmData, ArmsData, joined, one, work_of_arms}
use Rattle.logical_plan.specs.answers.Answers.{AnswerData, answer_data}
use Rattle.logical_plan.specs.declared.answers.Answer.{Answer}
use Rattle.logical_plan.specs.answers.Permitted.{AreArmsOf, AreResults, HitsWithin, IsArmOf}
use Rattle.logical_plan.proofs.lemmas.answers.ArmLemmas.{arms_hits_are_hits}
use Rattle.logical_plan.proofs.lemmas.answers.PermittedLemmas.{answer_is_permitted}
use Rattle.semantics.specs.Query.{Body, From, QueryData, Select, compound, select}
use Rattle.semantics.specs.Typed.{BodyHasTypes}
use Rattle.logical_plan_queries.specs.Answers.{AreWideFor, IsPlanFor, IsPlannedAsTyped, PlannedData}
use Rattle.logical_plan_queries.specs.Made.{IsJoined}
use Rattle.logical_plan_queries.proofs.ServedLemmas.{not_each}
use Rattle.logical_plan_queries.specs.select_plans.Columns.{HaveColumns}
use Rattle.logical_plan_queries.specs.select_plans.Read.{IsWideOf}
use Rattle.logical_plan.specs.answers.Sources.{SourceData}
use Rattle.logical_plan.specs.Plan.{TreeSizes}

-- what holds of each arm where its tables hold what FROM says of them
each_told : (db : Database) (Is : From → Select → ArmData → Type 0) → ((from : From) (s : Select) (arm : ArmData) → IsWideOf db from s → IsArmFor from s arm → Is from s arm)
    → (body : Body) (arms : ArmsData) → AreWideFor db body → AreArmsOf IsArmFor body arms → AreArmsOf Is body arms
each_told db Is told (select from s) (one arm) wide of = told from s arm wide of
each_told db Is told (select from s) (joined left other arm) wide of = absurd of
each_told db Is told (compound body operator from s) (one arm) wide of = absurd of
each_told db Is told (compound body operator from s) (joined left other arm) wide of =
    (each_told db Is told body left wide.0 of.0, of.1, told from s arm wide.1 of.2)

module _ (catalog : List (List Ty)) (sources : List SourceData) (have : HaveColumns catalog sources) where
  each_over : (body : Body) (types : List Ty) (arms : ArmsData) → BodyHasTypes catalog body types → AreArmsOf IsArmFor body arms → ArePlannedOver sources arms
  each_over (select from s) types (one arm) typed of = of.over catalog sources have types typed
  each_over (select from s) types (joined left other arm) typed of = absurd of
  each_over (compound body operator from s) types (one arm) typed of = absurd of
  each_over (compound body operator from s) types (joined left other arm) typed of =
      (each_over body types left typed.0 of.0, of.2.over catalog sources have types typed.1)

-- each asks for no more pages than its SELECT may
each_few : (w : Datum) (db : Database) (sizes : List TreeSizes) (body : Body) (arms : ArmsData) → AreWideFor db body → AreArmsOf IsArmFor body arms
    → work_of_arms w db sizes arms ≤ selects_work w db sizes body
each_few w db sizes (select from s) (one arm) wide of = of.few w db sizes wide
each_few w db sizes (select from s) (joined left other arm) wide of = absurd of
each_few w db sizes (compound body operator from s) (one arm) wide of = absurd of
each_few w db sizes (compound body operator from s) (joined left other arm) wide of =
    let before = each_few w db sizes body left wide.0 of.0 in
    let last = of.2.few w db sizes wide.1 in
    omega (arith, before, last)

module _ (query : QueryData) (whole : AnswerData) (made : IsJoined query whole) where
  pub joined_is_plan : IsPlanFor query (PlannedData.answer whole)
  joined_is_plan = record {
    permits = λ w db rows wide is.
        answer_is_permitted w db query whole rows
        (inl (record {
          arms = each_told db (IsArmOf w db) (λ from s arm wide of. of.is_arm w db wide) query.body whole.arms wide made.arms;
          results = made.results;
          order = made.order;
          limit = made.limit_is;
          offset = made.offset_is;
        }))
        is;
    hits = λ w db wide hits.
        arms_hits_are_hits w db query whole.arms made.results
        (each_told db (HitsWithin w db) (λ from s arm wide of. of.hits w db wide) query.body whole.arms wide made.arms) hits;
    few = λ w db sizes wide. each_few w db sizes query.body whole.arms wide made.arms;
  }

  pub joined_over : IsPlannedAsTyped query (PlannedData.answer whole)
  joined_over catalog sources have typed = each_over catalog sources have query.body typed.0 whole.arms typed.1.body made.arms

-- there is none where one of the SELECTs isn't served
pub joined_told : {E : Type 0} (query : QueryData) → AreResults query.order → (found : Result (Option Answer) E)
    → IfOk found (λ answer. MatchOption answer (¬ AreServed query.body) (λ a. IsJoined query (answer_data a)))
    → IfOk found (λ answer. MatchOption answer (¬ IsServed query)
    (λ a. IsPlanFor query (PlannedData.answer (answer_data a)) × IsPlannedAsTyped query (PlannedData.answer (answer_data a))))
joined_told query results (Ok None) told = not_each query results told
joined_told query results (Ok (Some a)) told = (joined_is_plan query (answer_data a) told, joined_over query (answer_data a) told)
joined_told query results (Err e) told = tt
