use Rattle.semantics_rewrites.proofs.lemmas.schema_sources.TypeLemmas.{fits_still, typed_still, typed_within}
use Rattle.semantics_rewrites.proofs.schema_sources.laws.with_schema_is_typed.Goals as goal

pub returns-clause-within : goal.returns-clause-within
returns-clause-within c = typed_within

pub returns-clause-typed : goal.returns-clause-typed
returns-clause-typed c = typed_still

pub returns-clause-fits : goal.returns-clause-fits
returns-clause-fits c = fits_still
