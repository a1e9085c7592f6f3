use Rattle.expr.proofs.StandLemmas.{stands_for_all}
use Rattle.expr.proofs.laws.stands_for_all.Goals as goal

pub returns : goal.returns
returns c = stands_for_all
