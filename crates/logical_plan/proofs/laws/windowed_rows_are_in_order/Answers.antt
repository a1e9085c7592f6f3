use Rattle.logical_plan.proofs.WindowedLemmas.{windowed_in_order}
use Rattle.logical_plan.proofs.laws.windowed_rows_are_in_order.Goals as goal

pub returns : goal.returns
returns c = windowed_in_order
