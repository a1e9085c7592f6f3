-- The plan of FROM and WHERE, by whether a RIGHT or FULL JOIN is there.
use Rattle.std.proofs.Common.{◌≡◌, IfOk, MatchOption, Option, Some, None, Result, Ok, Err, true, false, List, ℕ, [], sym, subst}
use Rattle.std.specs.Prelude.{⊤}
use Rattle.expr.specs.Conjuncts.{conjuncts}
use Rattle.expr.specs.Filled.{filled}
use Rattle.expr.specs.Term.{Term}
use Rattle.logical_plan.specs.JoinPlan.{IsEarlyPlan, IsPlanBy, IsWrittenPlan, has_right}
use Rattle.logical_plan.specs.PlanView.{plan_data}
use Rattle.logical_plan.specs.Stands.{AreTestsOf}
use Rattle.logical_plan.specs.declared.plan.Plan.{Plan}
use Rattle.logical_plan_terms.specs.table_plans.Input.{from_of, input_from}
use Rattle.logical_plan_terms.specs.table_plans.Planned.{IsPlanOver}
use Rattle.logical_plan_terms.specs.declared.table_plans.inputs.Input.{Input}
use Rattle.logical_plan_terms.specs.declared.table_plans.inputs.JoinedTable.{JoinedTable}

module _ (input : Input) (read : List ℕ) (condition : Term) (tests : List Term) (tables : List JoinedTable) (same : tables ≡ input.tables.items)
    (stand : AreTestsOf read tests (conjuncts (filled [] condition))) where
  abbrev Early : Plan → Type 0
  Early plan = (conditions : List Term) → AreTestsOf read tests conditions → IsEarlyPlan read (from_of tables) conditions (plan_data plan)

  abbrev Written : Plan → Type 0
  Written plan = (conditions : List Term) → AreTestsOf read tests conditions → IsWrittenPlan read (from_of tables) conditions (plan_data plan)

  early_whole : has_right (input_from input) ≡ false → (plan : Plan) → Early plan → IsPlanOver input read condition (plan_data plan)
  early_whole none plan made =
      subst (λ b. IsPlanBy b read (input_from input) (conjuncts (filled [] condition)) (plan_data plan)) (sym none)
      (subst (λ (ts : List JoinedTable). IsEarlyPlan read (from_of ts) (conjuncts (filled [] condition)) (plan_data plan)) same (made (conjuncts (filled [] condition)) stand))

  written_whole : has_right (input_from input) ≡ true → (plan : Plan) → Written plan → IsPlanOver input read condition (plan_data plan)
  written_whole some plan made =
      subst (λ b. IsPlanBy b read (input_from input) (conjuncts (filled [] condition)) (plan_data plan)) (sym some)
      (subst (λ (ts : List JoinedTable). IsWrittenPlan read (from_of ts) (conjuncts (filled [] condition)) (plan_data plan)) same (made (conjuncts (filled [] condition)) stand))

  pub early_planned : has_right (input_from input) ≡ false → {E : Type 0} → (result : Result (Option Plan) E) → IfOk result (λ plan. MatchOption plan ⊤ Early)
      → IfOk result (λ plan. MatchOption plan ⊤ (λ plan. IsPlanOver input read condition (plan_data plan)))
  early_planned none (Ok None) made = tt
  early_planned none (Ok (Some plan)) made = early_whole none plan made
  early_planned none (Err e) made = tt

  pub written_planned : has_right (input_from input) ≡ true → {E : Type 0} → (result : Result (Option Plan) E) → IfOk result (λ plan. MatchOption plan ⊤ Written)
      → IfOk result (λ plan. MatchOption plan ⊤ (λ plan. IsPlanOver input read condition (plan_data plan)))
  written_planned some (Ok None) made = tt
  written_planned some (Ok (Some plan)) made = written_whole some plan made
  written_planned some (Err e) made = tt
