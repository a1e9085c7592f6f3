-- Two terms.
use Rattle.expr.specs.Term.{Term}
use Rattle.expr.specs.View.{term}
use Rattle.expr.specs.declared.tree.Expr.{Expr}

abbrev pub pair : {A B : Type 0} → A → B → A × B
pair a b = (a, b)

abbrev pub pair_of : Expr × Expr → Term × Term
pair_of p = pair (term p.0) (term p.1)
