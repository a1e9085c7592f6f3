use Rattle.semantics.proofs.AnswerLemmas.{some_permitted}
use Rattle.semantics.proofs.laws.some_list_is_permitted.Goals as goal

pub returns : goal.returns
returns c = some_permitted
