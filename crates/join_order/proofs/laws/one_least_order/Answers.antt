use Rattle.join_order.proofs.OneLemmas.{one_least_order}
use Rattle.join_order.proofs.laws.one_least_order.Goals as goal

pub returns : goal.returns
returns c = one_least_order
