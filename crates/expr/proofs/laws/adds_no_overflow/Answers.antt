use Rattle.expr.proofs.ConjunctLemmas.{adds_no_overflow}
use Rattle.expr.proofs.laws.adds_no_overflow.Goals as goal

pub returns : goal.returns
returns c = adds_no_overflow
