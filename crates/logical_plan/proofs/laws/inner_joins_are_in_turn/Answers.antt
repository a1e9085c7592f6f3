use Rattle.logical_plan.proofs.TurnLemmas.{inner_in_turn}
use Rattle.logical_plan.proofs.laws.inner_joins_are_in_turn.Goals as goal

pub returns : goal.returns
returns c = inner_in_turn
