use Rattle.expr.proofs.ReachLemmas.{reached_is_none}
use Rattle.expr.proofs.laws.reached_is_none.Goals as goal

pub returns : goal.returns
returns c = reached_is_none
