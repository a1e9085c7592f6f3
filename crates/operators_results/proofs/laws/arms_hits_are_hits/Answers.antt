use Rattle.logical_plan.proofs.lemmas.answers.ArmLemmas.{arms_hits_are_hits}
use Rattle.operators_results.proofs.laws.arms_hits_are_hits.Goals as goal

pub returns : goal.returns
returns c = arms_hits_are_hits
