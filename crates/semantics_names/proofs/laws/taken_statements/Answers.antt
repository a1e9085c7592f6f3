use Rattle.std.proofs.Common.{refl}
use Rattle.semantics_names.proofs.laws.taken_statements.Goals as goal

pub returns : goal.returns
returns c = (refl, refl, refl, refl, refl, refl, refl, refl, refl, refl)
