use Rattle.index_choice.proofs.ImplyLemmas.{implied_is_true}
use Rattle.index_choice.proofs.laws.implied_is_true.Goals as goal

pub returns : goal.returns
returns c = implied_is_true
