use Rattle.semantics_names.proofs.PlaceLemmas.{bare_is_beside, columns_are_scalar}
use Rattle.semantics_names.proofs.laws.places_are_kept.Goals as goal

pub returns-clause-bare : goal.returns-clause-bare
returns-clause-bare c = bare_is_beside

pub returns-clause-scalar : goal.returns-clause-scalar
returns-clause-scalar c = columns_are_scalar
