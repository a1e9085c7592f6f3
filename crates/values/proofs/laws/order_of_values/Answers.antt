use Rattle.values.specs.OrderLaws.{datum_cmp_total, datum_cmp-IsAntisymmetric}
use Rattle.values.proofs.laws.order_of_values.Goals as goal

pub returns-clause-total : goal.returns-clause-total
returns-clause-total c = datum_cmp_total

pub returns-clause-ties : goal.returns-clause-ties
returns-clause-ties c = datum_cmp-IsAntisymmetric
