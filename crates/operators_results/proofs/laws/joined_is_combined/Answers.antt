use Rattle.logical_plan.proofs.lemmas.answers.JoinedLemmas.{joined_is_combined}
use Rattle.operators_results.proofs.laws.joined_is_combined.Goals as goal

pub returns : goal.returns
returns c = joined_is_combined
