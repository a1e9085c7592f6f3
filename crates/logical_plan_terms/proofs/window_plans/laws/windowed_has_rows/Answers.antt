use Rattle.logical_plan_terms.proofs.lemmas.window_plans.RowLemmas.{windowed_has_rows, windowed_say}
use Rattle.logical_plan_terms.proofs.window_plans.laws.windowed_has_rows.Goals as goal

pub returns-clause-rows : goal.returns-clause-rows
returns-clause-rows c = windowed_has_rows

pub returns-clause-say : goal.returns-clause-say
returns-clause-say c = windowed_say
