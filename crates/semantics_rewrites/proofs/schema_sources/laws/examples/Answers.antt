use Rattle.semantics_rewrites.proofs.lemmas.schema_sources.ExampleLemmas.{later_shows}
use Rattle.semantics_rewrites.proofs.schema_sources.laws.examples.Goals as goal

pub returns : goal.returns
returns c = later_shows
