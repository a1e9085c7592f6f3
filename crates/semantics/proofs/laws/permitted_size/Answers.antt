use Rattle.semantics.proofs.AnswerLemmas.{Permits-length}
use Rattle.semantics.proofs.WidthLemmas.{Permits-width}
use Rattle.semantics.proofs.laws.permitted_size.Goals as goal

pub returns-clause-length : goal.returns-clause-length
returns-clause-length c = Permits-length

pub returns-clause-width : goal.returns-clause-width
returns-clause-width c = Permits-width
