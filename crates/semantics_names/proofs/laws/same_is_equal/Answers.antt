use Rattle.semantics_names.proofs.SameLemmas as same
use Rattle.semantics_names.proofs.laws.same_is_equal.Goals as goal

pub returns : goal.returns
returns c = same.same_is_equal
