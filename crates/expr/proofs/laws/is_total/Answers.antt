use Rattle.expr.proofs.StandLemmas.{is_total}
use Rattle.expr.proofs.laws.is_total.Goals as goal

pub returns : goal.returns
returns c = is_total
