use Rattle.semantics_rewrites.proofs.lemmas.materialized_queries.ExampleLemmas.{examples_show, otherwise_shows}
use Rattle.semantics_rewrites.proofs.materialized_queries.laws.examples.Goals as goal

pub returns-clause-flat : goal.returns-clause-flat
returns-clause-flat c = examples_show

pub returns-clause-otherwise : goal.returns-clause-otherwise
returns-clause-otherwise c = otherwise_shows
