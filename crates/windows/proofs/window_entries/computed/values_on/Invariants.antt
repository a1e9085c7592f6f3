use Rattle.std.proofs.Common.{◌≡◌, map, take}
use Rattle.values.specs.Datum.{Datum, datum_of}
use Rattle.expr.specs.Meaning.{eval}
use Rattle.expr.specs.View.{term}
use Rattle.expr.specs.declared.tree.Expr.{Expr}
use Rattle.windows.proofs.window_entries.computed.values_on.Given as goal

abbrev pub invariant-loop-expression : goal.invariant-loop-expression
invariant-loop-expression l =
    (w : Datum) → map datum_of l.values.items ≡ map (λ (e : Expr). eval w (term e) (map datum_of l.row)) (take l.expression-index l.terms)
