use Rattle.std.proofs.Common.{map}
use Rattle.expr.specs.View.{term}
use Rattle.logical_plan.specs.PlanView.{plan_data}
use Rattle.logical_plan_terms.proofs.table_plans.tables.plan_as_written.Goals as goal

pub returns-clause-plan : goal.returns-clause-plan
returns-clause-plan c = λ conditions stand. record {
  below = plan_data c.in-Some.below;
  tests = map term c.args.tests.items;
  plan_is = c.in_ok-plan.ensures;
  tests_are = stand;
  below_is = rw c.in-Some.is at c.in_ok-written_behind.ensures.plan;
}
