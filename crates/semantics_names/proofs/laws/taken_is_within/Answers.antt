use Rattle.semantics_names.proofs.LimitLemmas as limits
use Rattle.semantics_names.proofs.laws.taken_is_within.Goals as goal

pub returns : goal.returns
returns c = limits.taken_is_within
