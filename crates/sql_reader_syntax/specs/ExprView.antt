-- What an expression is that may be absent.
use Rattle.std.specs.Prelude.{Option, Some, None}
use Rattle.sql_reader_syntax.specs.ExprTree.{ExprTree, MaybeExpr}

abbrev pub maybe_of : Option ExprTree → MaybeExpr
maybe_of None = MaybeExpr.Absent
maybe_of (Some e) = MaybeExpr.Present e
