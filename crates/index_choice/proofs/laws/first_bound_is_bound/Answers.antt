use Rattle.index_choice.proofs.FirstLemmas.{first_bound_is_bound}
use Rattle.index_choice.proofs.laws.first_bound_is_bound.Goals as goal

pub returns : goal.returns
returns c = first_bound_is_bound
