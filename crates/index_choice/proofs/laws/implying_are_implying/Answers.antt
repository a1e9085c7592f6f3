use Rattle.index_choice.proofs.ImplyLemmas.{implying_are_implying}
use Rattle.index_choice.proofs.laws.implying_are_implying.Goals as goal

pub returns : goal.returns
returns c = implying_are_implying c.same_is_equal.ensures.terms
