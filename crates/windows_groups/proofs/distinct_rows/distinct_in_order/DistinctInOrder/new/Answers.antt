use Rattle.std.proofs.Common.{arith}
use Rattle.windows_groups.specs.Keys.{comes_before}
use Rattle.windows_groups.proofs.lemmas.distinct_rows.OnceLemmas.{firm_none}
use Rattle.windows_groups.proofs.distinct_rows.distinct_in_order.DistinctInOrder.new.Goals as goal

pub returns-clause-none : goal.returns-clause-none
returns-clause-none c = λ order. record { within = omega arith; keeps = rw c.new.ensures.empty (firm_none (comes_before order) c.args.most) }
