use Rattle.semantics_names.proofs.FoundLemmas as found
use Rattle.semantics_names.proofs.laws.typed_is_taken.Goals as goal

pub returns : goal.returns
returns c = found.typed_is_taken
