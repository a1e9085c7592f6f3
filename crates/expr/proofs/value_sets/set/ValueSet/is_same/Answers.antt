use Rattle.std.proofs.Common.{◌≡◌, ◌↔◌, ◌∙◌, Bool, IsTrue, List, map, subst, sym}
use Rattle.std.specs.Ordering.{eq_by_cmp}
use Rattle.values.proofs.RowLemmas.{pointwise-rows}
use Rattle.values.specs.Datum.{Datum, datum_of}
use Rattle.values.specs.Order.{row_cmp}
use Rattle.values.specs.OrderLaws.{row_eq-IsEquivalence, row_eq-same}
use Rattle.expr.proofs.value_sets.set.ValueSet.is_same.Goals as goal

same_lists : (x y : List Datum) (r : Bool) → r ≡ eq_by_cmp row_cmp x y → IsTrue r ↔ (x ≡ y)
same_lists x y r e = (
  (λ t. row_eq-same x y (sym e ∙ t)),
  (λ same. e ∙ subst (λ other. IsTrue (eq_by_cmp row_cmp x other)) same (row_eq-IsEquivalence.refl x)),
)

pub returns : goal.returns
returns c =
    rw (← c.self.view_is, ← c.other.view_is) (
    same_lists (map datum_of c.self.inside.values.items) (map datum_of c.other.inside.values.items) _
    (c.eq.ensures ∙ pointwise-rows c.self.inside.values.items c.other.inside.values.items))
