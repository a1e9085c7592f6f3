use Rattle.expr.proofs.ConjunctLemmas.{keeps_conjuncts}
use Rattle.expr.proofs.laws.keeps_conjuncts.Goals as goal

pub returns : goal.returns
returns c = keeps_conjuncts
