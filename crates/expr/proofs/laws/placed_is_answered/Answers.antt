use Rattle.expr.proofs.FilledLemmas.{placed_is_answered}
use Rattle.expr.proofs.laws.placed_is_answered.Goals as goal

pub returns : goal.returns
returns c = placed_is_answered
