use Rattle.std.proofs.Common.{inl, inr}
use Rattle.semantics_names.proofs.OneLemmas.{ok_or_err}
use Rattle.semantics_names.specs.Typed.{typed_query}
use Rattle.semantics_names.proofs.laws.refused_is_no_query.Goals as goal

pub returns : goal.returns
returns c tables tree fault query (inl e) other is = other e
returns c tables tree fault query (inr e) other is = ok_or_err query fault (typed_query tables tree) is e
