use Rattle.semantics.proofs.RunLemmas.{joined_in_any_order, run_is_filter}
use Rattle.semantics.proofs.laws.inner_joins_in_any_order.Goals as goal

pub returns-clause-run : goal.returns-clause-run
returns-clause-run c = run_is_filter

pub returns-clause-order : goal.returns-clause-order
returns-clause-order c = joined_in_any_order
