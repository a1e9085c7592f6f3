use Rattle.semantics.proofs.AnswerLemmas.{Begins-empty, Begins-front}
use Rattle.semantics.proofs.ScanLemmas.{Begins-unordered}
use Rattle.semantics.proofs.laws.beginnings.Goals as goal

pub returns-clause-empty : goal.returns-clause-empty
returns-clause-empty c = Begins-empty

pub returns-clause-front : goal.returns-clause-front
returns-clause-front c = Begins-front

pub returns-clause-unordered : goal.returns-clause-unordered
returns-clause-unordered c = Begins-unordered
