use Rattle.std.proofs.Common.{refl}
use Rattle.semantics_names.proofs.laws.refused_statements.Goals as goal

pub returns-clause-names : goal.returns-clause-names
returns-clause-names c = (refl, refl, refl, refl, refl, refl, refl, refl, refl, refl, refl, refl, refl, refl)

pub returns-clause-types : goal.returns-clause-types
returns-clause-types c = (refl, refl, refl, refl, refl)

pub returns-clause-places : goal.returns-clause-places
returns-clause-places c = (refl, refl, refl, refl, refl, refl, refl, refl, refl, refl, refl, refl, refl, refl, refl, refl)

pub returns-clause-frames : goal.returns-clause-frames
returns-clause-frames c = (refl, refl, refl, refl)
