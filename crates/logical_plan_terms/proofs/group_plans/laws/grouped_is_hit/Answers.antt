use Rattle.logical_plan_terms.proofs.lemmas.group_plans.HitLemmas.{grouped_columns_are_hit, grouped_is_hit}
use Rattle.logical_plan_terms.proofs.group_plans.laws.grouped_is_hit.Goals as goal

pub returns-clause-plan : goal.returns-clause-plan
returns-clause-plan c = grouped_is_hit

pub returns-clause-columns : goal.returns-clause-columns
returns-clause-columns c = grouped_columns_are_hit
