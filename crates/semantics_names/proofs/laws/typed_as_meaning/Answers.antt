use Rattle.semantics_names.proofs.TypeLemmas.{statement_is}
use Rattle.semantics_names.proofs.laws.typed_as_meaning.Goals as goal

pub returns : goal.returns
returns c = statement_is
