-- ORDER BY, behind DISTINCT and without.
use Rattle.std.proofs.Common.{◌≡◌, Bool, true, false, Option, Some, None, MatchOption, option_map, ap, sym, ◌∙◌}
use Rattle.semantics_names.specs.Expression.{Answers, Says}
use Rattle.semantics_names.specs.Statement.{on_row}
use Rattle.resolver_exprs.specs.order_keys.Named.{on_rows}

pub one_row : {A B : Type 0} (now : A → B) (meaning : B → Says) (answers : Answers) (distinct : Bool) (place : B) (rows : Option A)
    → MatchOption rows (distinct ≡ true) (λ row. (distinct ≡ false) × (now row ≡ place))
    → on_rows answers (option_map (λ row. meaning (now row)) rows) ≡ on_row answers distinct (meaning place)
one_row now meaning answers distinct place None e = ap (λ d. on_row answers d (meaning place)) (sym e)
one_row now meaning answers distinct place (Some row) e =
    ap (λ p. on_row answers false (meaning p)) e.1 ∙ ap (λ d. on_row answers d (meaning place)) (sym e.0)
