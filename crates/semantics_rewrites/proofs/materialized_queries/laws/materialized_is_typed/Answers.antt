use Rattle.semantics_rewrites.proofs.lemmas.materialized_queries.FlatTypeLemmas.{materialized_typed}
use Rattle.semantics_rewrites.proofs.lemmas.materialized_queries.WholeTypeLemmas.{materialized_query_typed}
use Rattle.semantics_rewrites.proofs.materialized_queries.laws.materialized_is_typed.Goals as goal

pub returns-clause-body : goal.returns-clause-body
returns-clause-body c = λ w db catalog of types stand_in fits has. materialized_typed catalog w db of types stand_in fits has

pub returns-clause-ordered : goal.returns-clause-ordered
returns-clause-ordered c = λ w db catalog query types stand_in fits has. materialized_query_typed catalog w stand_in db fits query types has
