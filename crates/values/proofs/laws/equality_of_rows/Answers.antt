use Rattle.std.proofs.Common.{subst, IsTrue}
use Rattle.std.specs.Ordering.{eq_by_cmp}
use Rattle.values.specs.Order.{row_cmp}
use Rattle.values.specs.OrderLaws.{row_eq-same, row_eq-IsEquivalence}
use Rattle.values.proofs.laws.equality_of_rows.Goals as goal

pub returns : goal.returns
returns c = λ a b. (row_eq-same a b, λ same. subst (λ row. IsTrue (eq_by_cmp row_cmp a row)) same (row_eq-IsEquivalence.refl a))
