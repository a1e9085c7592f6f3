use Rattle.expr.proofs.ConjunctLemmas.{conjuncts_are_leaves}
use Rattle.expr.proofs.laws.conjuncts_are_leaves.Goals as goal

pub returns : goal.returns
returns c = conjuncts_are_leaves
