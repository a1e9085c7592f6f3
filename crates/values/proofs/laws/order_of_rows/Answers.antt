use Rattle.values.specs.OrderLaws.{row_cmp_total, row_cmp-IsAntisymmetric}
use Rattle.values.proofs.laws.order_of_rows.Goals as goal

pub returns-clause-total : goal.returns-clause-total
returns-clause-total c = row_cmp_total

pub returns-clause-ties : goal.returns-clause-ties
returns-clause-ties c = row_cmp-IsAntisymmetric
