-- The truth of a condition, as its value tells, whatever stands for results out of range.
use Rattle.std.proofs.Common.{◌≡◌, ◌∙◌, Bool, false, List, Option, None, Some, refl, sym, ap}
use Rattle.values.specs.Datum.{Datum, null}
use Rattle.expr.specs.Conjuncts.{is_true, keeps}
use Rattle.expr.specs.Meaning.{Overflows, eval, exact}
use Rattle.expr.specs.operations.Operations.{truth}
use Rattle.expr.specs.Term.{Term}
use Rattle.expr.proofs.AnswerLemmas.{for_every}

pub truth_is : (t : Term) (row : List Datum) (kept : Bool) → ((w : Datum) → keeps (truth (eval w t row)) ≡ kept) → ¬ Overflows t row
    → kept ≡ is_true (exact t row)
truth_is t row kept tells whole = by_value (exact t row) refl
  where
    by_value : (value : Option Datum) → exact t row ≡ value → kept ≡ is_true (exact t row)
    by_value None e = absurd (whole e)
    by_value (Some v) e = sym (tells null) ∙ ap (λ x. keeps (truth x)) (for_every t row v e null) ∙ sym (ap is_true e)

pub none_is : (t : Term) (row : List Datum) → Overflows t row → false ≡ is_true (exact t row)
none_is t row none = sym (ap is_true none)
