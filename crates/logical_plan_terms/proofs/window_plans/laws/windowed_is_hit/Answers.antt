use Rattle.logical_plan_terms.proofs.lemmas.window_plans.HitLemmas.{windowed_columns_are_hit, windowed_is_hit}
use Rattle.logical_plan_terms.proofs.window_plans.laws.windowed_is_hit.Goals as goal

pub returns-clause-plan : goal.returns-clause-plan
returns-clause-plan c = windowed_is_hit

pub returns-clause-columns : goal.returns-clause-columns
returns-clause-columns c = windowed_columns_are_hit
