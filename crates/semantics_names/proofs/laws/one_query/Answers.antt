use Rattle.semantics_names.proofs.OneLemmas.{one_ok}
use Rattle.semantics_names.specs.Typed.{typed_query}
use Rattle.semantics_names.proofs.laws.one_query.Goals as goal

pub returns : goal.returns
returns c tables tree first second is also = one_ok first second (typed_query tables tree) is also
