use Rattle.logical_plan.proofs.StandLemmas.{stands_for_itself}
use Rattle.logical_plan.proofs.laws.whole_rows_are_read.Goals as goal

pub returns : goal.returns
returns c = stands_for_itself
