use Rattle.logical_plan_queries.proofs.TypedLemmas as lemma
use Rattle.logical_plan_queries.proofs.laws.typed_is_served.Goals as goal

pub returns : goal.returns
returns c = lemma.typed_is_served
