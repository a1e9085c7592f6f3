use Rattle.semantics_rewrites.proofs.lemmas.materialized_queries.FlatHitLemmas.{materialized_hits, materialized_hits_over}
use Rattle.semantics_rewrites.proofs.lemmas.materialized_queries.FlatLemmas.{materialized_body_same, materialized_permits}
use Rattle.semantics_rewrites.proofs.materialized_queries.laws.materialized_is_same.Goals as goal

pub returns-clause-body : goal.returns-clause-body
returns-clause-body c = materialized_body_same

pub returns-clause-permitted : goal.returns-clause-permitted
returns-clause-permitted c = λ w db other query rows is same. materialized_permits w db query is other rows same

pub returns-clause-hits : goal.returns-clause-hits
returns-clause-hits c = materialized_hits

pub returns-clause-hits_over : goal.returns-clause-hits_over
returns-clause-hits_over c = λ w db other query is same. materialized_hits_over w db query is other same
