use Rattle.semantics.proofs.KeyLemmas.{sequence_is_one}
use Rattle.semantics.proofs.laws.sequence_is_one.Goals as goal

pub returns : goal.returns
returns c = sequence_is_one
