use Rattle.semantics_rewrites.proofs.lemmas.schema_sources.HitLemmas.{with_schema_hits}
use Rattle.semantics_rewrites.proofs.lemmas.schema_sources.RowLemmas.{same_answers, same_body}
use Rattle.semantics_rewrites.proofs.schema_sources.laws.with_schema_is_same.Goals as goal

pub returns-clause-body : goal.returns-clause-body
returns-clause-body c = λ w db query is. same_body w db query is

pub returns-clause-permitted : goal.returns-clause-permitted
returns-clause-permitted c = λ w db query rows is. same_answers w db query is rows

pub returns-clause-hits : goal.returns-clause-hits
returns-clause-hits c = λ w db query is. with_schema_hits w db query is
