use Rattle.logical_plan_queries.proofs.lemmas.select_plans.MadeLemmas as lemma
use Rattle.logical_plan_queries.proofs.select_plans.laws.made_has_rows.Goals as goal

pub returns-clause-rows : goal.returns-clause-rows
returns-clause-rows c = lemma.made_has_rows

pub returns-clause-hits : goal.returns-clause-hits
returns-clause-hits c = lemma.made_is_hit
