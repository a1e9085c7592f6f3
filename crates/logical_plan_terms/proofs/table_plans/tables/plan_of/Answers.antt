use Rattle.std.proofs.Common.{◌≡◌, ◌∙◌, List, [], false, true, ap, map, sym, arith}
use Rattle.logical_plan.specs.JoinPlan.{has_right}
use Rattle.expr.specs.View.{term}
use Rattle.logical_plan_terms.specs.table_plans.Input.{from_of}
use Rattle.logical_plan_terms.specs.declared.table_plans.inputs.JoinedTable.{JoinedTable}
use Rattle.logical_plan_terms.proofs.lemmas.table_plans.InputLemmas.{right_of}
use Rattle.logical_plan_terms.proofs.lemmas.table_plans.WholeLemmas.{early_planned, written_planned}
use Rattle.logical_plan_terms.proofs.table_plans.tables.plan_of.Goals as goal

pub returns-then-some_flagged-clause-plan : goal.returns-then-some_flagged-clause-plan
returns-then-some_flagged-clause-plan c =
    let on = rw c.in-Some.is at c.in_ok-conjuncts_over.ensures.stand in
    let same : c.as_slice-tables.result.now ≡ c.args.input.now.tables.items = c.as_slice-tables.ensures.value in
    let some : has_right (from_of c.as_slice-tables.result.now) ≡ true = right_of c.as_slice-tables.result.now ∙ sym c.some_flagged.ensures ∙ c.if-some_flagged.true in
    written_planned c.args.input.now c.args.read.now (term c.args.condition.now) (map term c.in-Some.tests.items) c.as_slice-tables.result.now same
    (on [] (omega arith)) (ap (λ (ts : List JoinedTable). has_right (from_of ts)) (sym same) ∙ some) c.plan_as_written.result c.plan_as_written.ensures.plan

pub plan_behind-requires-clause-early : goal.plan_behind-requires-clause-early
plan_behind-requires-clause-early c = right_of c.as_slice-tables.result.now ∙ sym c.some_flagged.ensures ∙ c.if-some_flagged.false

pub returns-clause-plan : goal.returns-clause-plan
returns-clause-plan c =
    let on = rw c.in-Some.is at c.in_ok-conjuncts_over.ensures.stand in
    let same : c.as_slice-tables.result.now ≡ c.args.input.now.tables.items = c.as_slice-tables.ensures.value in
    let none : has_right (from_of c.as_slice-tables.result.now) ≡ false = right_of c.as_slice-tables.result.now ∙ sym c.some_flagged.ensures ∙ c.if-some_flagged.false in
    early_planned c.args.input.now c.args.read.now (term c.args.condition.now) (map term c.in-Some.tests.items) c.as_slice-tables.result.now same
    (on [] (omega arith)) (ap (λ (ts : List JoinedTable). has_right (from_of ts)) (sym same) ∙ none) c.plan_behind.result c.plan_behind.ensures.plan
