-- Numbers among arguments.
use Rattle.std.specs.Prelude.{ℕ, Option, None}
use Rattle.sql_reader_syntax.specs.ExprTree.{ExprTree}
use Rattle.resolver_selects.specs.window_names.Numbers.{natural}

-- the number that is written, where nothing else is
abbrev pub number_of : ExprTree → Option ℕ
number_of (ExprTree.Number z) = natural z
number_of _ = None
