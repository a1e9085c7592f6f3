-- Rows before or behind, and rows of a frame.
use Rattle.std.specs.Prelude.{ℕ}
use Rattle.expr.specs.Term.{Term}
use Rattle.expr.specs.View.{term}
use Rattle.expr.specs.declared.tree.Expr.{Expr}
use Rattle.resolver_selects.specs.window_calls.Ranking as ranking
use Rattle.resolver_selects.specs.declared.window_calls.functions.Shift.{Shift}

abbrev pub shift_of : Shift → ranking.Shift
shift_of s = ranking.shifted s.rows (term s.otherwise) (term s.value)

abbrev pub nth_of : Expr × ℕ → Term × ℕ
nth_of p = (term p.0, p.1)
