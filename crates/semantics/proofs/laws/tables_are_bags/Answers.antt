use Rattle.semantics.proofs.AnswerLemmas.{Permits-bags}
use Rattle.semantics.proofs.BodyLemmas.{answers-same, body_rows-same}
use Rattle.semantics.proofs.laws.tables_are_bags.Goals as goal

pub returns-clause-permitted : goal.returns-clause-permitted
returns-clause-permitted c = Permits-bags

pub returns-clause-body : goal.returns-clause-body
returns-clause-body c = λ w db other body same. body_rows-same w db other same body

pub returns-clause-answers : goal.returns-clause-answers
returns-clause-answers c = λ w db other from same. answers-same w db other same from
