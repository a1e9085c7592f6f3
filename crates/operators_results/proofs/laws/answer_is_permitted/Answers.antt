use Rattle.logical_plan.proofs.lemmas.answers.PermittedLemmas.{answer_is_permitted}
use Rattle.operators_results.proofs.laws.answer_is_permitted.Goals as goal

pub returns : goal.returns
returns c = answer_is_permitted
