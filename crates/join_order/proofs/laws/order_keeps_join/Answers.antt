use Rattle.join_order.proofs.JoinLemmas.{order_keeps_join}
use Rattle.join_order.proofs.laws.order_keeps_join.Goals as goal

pub returns : goal.returns
returns c = order_keeps_join
