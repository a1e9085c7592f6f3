use Rattle.semantics_names.proofs.TypeLemmas as types
use Rattle.semantics_names.proofs.laws.mismatch_is_untyped.Goals as goal

pub returns : goal.returns
returns c = types.mismatch_is_untyped
