use Rattle.logical_plan.proofs.PromiseLemmas.{searches_leave_out}
use Rattle.logical_plan.proofs.laws.searches_leave_out.Goals as goal

pub returns : goal.returns
returns c = searches_leave_out
