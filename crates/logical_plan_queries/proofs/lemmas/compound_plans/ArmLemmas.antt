-- The plan of one SELECT of several.
use Rattle.std.proofs.Common.{◌≡◌, pos, List, [], append-nil, None, sym, subst}
use Rattle.std.proofs.lemmas.List.Elements.{All-nil}
use Rattle.expr.specs.Term.{Term}
use Rattle.semantics.specs.Query.{From, Key, Select, select}
use Rattle.semantics.specs.Typed.{IsKeyTerm}
use Rattle.logical_plan_queries.specs.compound_plans.Arms.{IsArmFor}
use Rattle.logical_plan_queries.proofs.lemmas.compound_plans.WorkLemmas.{made_work}
use Rattle.logical_plan.specs.answers.Arms.{ArmData}
use Rattle.logical_plan_queries.specs.select_plans.Laws.{PlanReaches}
use Rattle.logical_plan_queries.specs.select_plans.Made.{IsMadeOver}
use Rattle.logical_plan_queries.specs.select_plans.Served.{AreOfRows, IsServedFrom, IsServedSelect}
use Rattle.logical_plan_queries.proofs.lemmas.select_plans.MadeLemmas.{made_has_rows, made_is_hit}
use Rattle.logical_plan_queries.proofs.lemmas.select_plans.OverLemmas.{plan_over}
use Rattle.logical_plan_terms.specs.table_plans.Input.{input_from}
use Rattle.logical_plan_terms.specs.declared.table_plans.inputs.Input.{Input}

-- a plan over what the SELECT stands on
arm_over : (input : Input) (s : Select) (arm : ArmData) → IsServedFrom (input_from input) → IsMadeOver input s [] arm.plan arm.columns → arm.distinct ≡ s.distinct
    → IsArmFor (input_from input) s arm
arm_over input s arm inner made distinct = record {
  is_arm = λ w db wide. record { sees = made_has_rows w db input s [] arm.plan arm.columns inner wide made; distinct = distinct };
  hits = λ w db wide hits.
      made_is_hit w db input s [] [] arm.plan arm.columns [] inner wide made tt
      (subst (λ (es : List Term). PlanReaches w db arm.plan es) (sym (append-nil arm.columns)) hits);
  few = λ w db sizes wide. made_work w db sizes input s [] arm.plan arm.columns wide made;
  over = λ catalog sources have types typed.
      plan_over catalog sources have input s inner [] None (pos 0) arm.plan arm.columns (
        types,
        record { body = typed; order = All-nil (λ (key : Key). IsKeyTerm catalog (select (input_from input) s) types key.by) },
      ) made;
}

pub arm_for : (from : From) (input : Input) (s : Select) (arm : ArmData) → from ≡ input_from input → IsServedFrom (input_from input)
    → IsMadeOver input s [] arm.plan arm.columns → arm.distinct ≡ s.distinct → IsArmFor from s arm
arm_for from input s arm same inner made distinct = subst (λ (f : From). IsArmFor f s arm) (sym same) (arm_over input s arm inner made distinct)

-- there is none where something else than values of the rows is named that it is computed on
pub not_named : (from : From) (input : Input) (s : Select) → from ≡ input_from input → ¬ AreOfRows (input_from input) s [] → ¬ IsServedSelect from s []
not_named from input s same none served = none (subst (λ (f : From). AreOfRows f s []) same served.named)
