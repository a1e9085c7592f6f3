use Rattle.logical_plan_queries.proofs.lemmas.select_plans.LawLemmas as lemma
use Rattle.logical_plan_queries.proofs.select_plans.laws.made_is_over.Goals as goal

pub returns : goal.returns
returns c = lemma.made_is_over
