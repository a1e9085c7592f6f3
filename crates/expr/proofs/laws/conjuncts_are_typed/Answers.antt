use Rattle.expr.proofs.TypeLemmas.{conjuncts_are_typed}
use Rattle.expr.proofs.laws.conjuncts_are_typed.Goals as goal

pub returns : goal.returns
returns c = conjuncts_are_typed
