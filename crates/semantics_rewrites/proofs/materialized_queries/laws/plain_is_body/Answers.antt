use Rattle.semantics_rewrites.proofs.lemmas.materialized_queries.PartLemmas.{plain_hits, plain_rows}
use Rattle.semantics_rewrites.proofs.materialized_queries.laws.plain_is_body.Goals as goal

pub returns-clause-rows : goal.returns-clause-rows
returns-clause-rows c = plain_rows

pub returns-clause-hits : goal.returns-clause-hits
returns-clause-hits c = plain_hits
