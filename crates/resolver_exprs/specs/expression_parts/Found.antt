-- Parts that have been found.
use Rattle.std.specs.Prelude.{List, Vec, map}
use Rattle.std.specs.Borrow.{Bor}
use Rattle.std.specs.Global.{Global}
use Rattle.sql_reader_syntax.specs.ExprTree.{ExprTree}
use Rattle.sql_reader_grammar.specs.statement_trees.TreeView.{expr_of}
use Rattle.sql_reader_grammar.specs.declared.statement_trees.expressions.Expr.{Expr}

-- their trees
abbrev pub found_in : Vec (Bor Expr) Global → List ExprTree
found_in found = map (λ e. expr_of e.now) found.items
