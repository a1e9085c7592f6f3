use Rattle.semantics_rewrites.proofs.lemmas.materialized_queries.AnswerLemmas.{answer_alike, materialized_is}
use Rattle.semantics_rewrites.proofs.lemmas.materialized_queries.FlatHitLemmas.{materialized_with_hits}
use Rattle.semantics_rewrites.proofs.lemmas.materialized_queries.FlatLemmas.{materialized_with_permits}
use Rattle.semantics_rewrites.proofs.lemmas.materialized_queries.PartLemmas.{kept_same}
use Rattle.semantics_rewrites.proofs.materialized_queries.laws.materialized_with_is_same.Goals as goal

pub returns-clause-own : goal.returns-clause-own
returns-clause-own c = materialized_is

pub returns-clause-kept : goal.returns-clause-kept
returns-clause-kept c = kept_same

pub returns-clause-answer : goal.returns-clause-answer
returns-clause-answer c = answer_alike

pub returns-clause-permitted : goal.returns-clause-permitted
returns-clause-permitted c = λ w db other query answers rows is same alike. materialized_with_permits w db query is other answers rows same alike

pub returns-clause-hits : goal.returns-clause-hits
returns-clause-hits c = λ w db other query answers is same alike. materialized_with_hits w db query is other answers same alike
