use Rattle.logical_plan_terms.proofs.lemmas.table_plans.OnLemmas.{on_is_over}
use Rattle.logical_plan_terms.proofs.table_plans.laws.conditions_are_over.Goals as goal

pub returns : goal.returns
returns c = on_is_over
