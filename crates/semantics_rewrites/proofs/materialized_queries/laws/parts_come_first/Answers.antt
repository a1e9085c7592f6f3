use Rattle.semantics_rewrites.proofs.lemmas.materialized_queries.PartLemmas.{queries_hit, queries_smaller, queries_typed, queries_within, sources_hit, sources_smaller, sources_typed, sources_within}
use Rattle.semantics_rewrites.proofs.materialized_queries.laws.parts_come_first.Goals as goal

pub returns-clause-smaller_sources : goal.returns-clause-smaller_sources
returns-clause-smaller_sources c = sources_smaller

pub returns-clause-smaller_queries : goal.returns-clause-smaller_queries
returns-clause-smaller_queries c = queries_smaller

pub returns-clause-sources_within : goal.returns-clause-sources_within
returns-clause-sources_within c = sources_within

pub returns-clause-queries_within : goal.returns-clause-queries_within
returns-clause-queries_within c = queries_within

pub returns-clause-typed_sources : goal.returns-clause-typed_sources
returns-clause-typed_sources c = sources_typed

pub returns-clause-typed_queries : goal.returns-clause-typed_queries
returns-clause-typed_queries c = queries_typed

pub returns-clause-hit_sources : goal.returns-clause-hit_sources
returns-clause-hit_sources c = λ w db query. sources_hit w db query.order query.body

pub returns-clause-hit_queries : goal.returns-clause-hit_queries
returns-clause-hit_queries c = λ w db query. queries_hit w db query.order query.body
