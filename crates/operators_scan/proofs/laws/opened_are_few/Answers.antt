use Rattle.operators_scan.proofs.StepLemmas.{opened_are_few}
use Rattle.operators_scan.proofs.laws.opened_are_few.Goals as goal

pub returns : goal.returns
returns c = opened_are_few
