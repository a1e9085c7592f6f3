use Rattle.join_order.proofs.OneLemmas.{worked_chain}
use Rattle.join_order.proofs.laws.worked_chain.Goals as goal

pub returns : goal.returns
returns c = worked_chain
