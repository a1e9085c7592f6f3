use Rattle.index_choice.proofs.BoundLemmas.{bound_says_conjunct}
use Rattle.index_choice.proofs.laws.bound_says_conjunct.Goals as goal

pub returns : goal.returns
returns c = bound_says_conjunct
