use Rattle.logical_plan_queries.proofs.lemmas.select_plans.LawLemmas as lemma
use Rattle.logical_plan_queries.proofs.select_plans.laws.typed_is_of_rows.Goals as goal

pub returns : goal.returns
returns c = lemma.typed_is_of_rows
