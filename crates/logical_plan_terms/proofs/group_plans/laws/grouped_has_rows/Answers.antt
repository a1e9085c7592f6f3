use Rattle.logical_plan_terms.proofs.lemmas.group_plans.RowLemmas.{grouped_has_rows}
use Rattle.logical_plan_terms.proofs.lemmas.group_plans.WidthLemmas.{grouped_say}
use Rattle.logical_plan_terms.proofs.group_plans.laws.grouped_has_rows.Goals as goal

pub returns-clause-rows : goal.returns-clause-rows
returns-clause-rows c = grouped_has_rows

pub returns-clause-say : goal.returns-clause-say
returns-clause-say c = grouped_say
