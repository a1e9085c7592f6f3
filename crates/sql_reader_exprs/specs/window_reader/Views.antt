-- What was read, as the grammar's reader tells it.
use Rattle.std.specs.Prelude.{Bool, ℕ, List, Option, Some, None, Vec, map, option_map}
use Rattle.sql_reader_grammar.specs.Queries.{nowhere}
use Rattle.sql_reader_grammar.specs.Reading.{terms_of}
use Rattle.sql_reader_syntax.specs.ExprTree.{ExprTree, ExprTrees, MaybeExpr, TermTrees, trees_of}
use Rattle.sql_reader_syntax.specs.Functions.{takes_number}
use Rattle.sql_reader_syntax.specs.ExprView.{maybe_of}
use Rattle.sql_reader_grammar.specs.statement_trees.TreeView.{arm_of, expr_of, term_of}
use Rattle.sql_reader_grammar.specs.declared.statement_trees.expressions.Arm.{Arm}
use Rattle.sql_reader_grammar.specs.declared.statement_trees.expressions.Expr.{Expr}
use Rattle.sql_reader_syntax.specs.declared.expr.Function.{Function}
use Rattle.sql_reader_grammar.specs.declared.statement_trees.expressions.OrderingTerm.{OrderingTerm}
use Rattle.sql_reader_syntax.specs.declared.query.Direction.{Direction}

abbrev pub exprs_of : {A : Type 0} → Vec Expr A → List ExprTree
exprs_of v = map expr_of v.items

-- the same as one tree
abbrev pub some_of : {A : Type 0} → Vec Expr A → ExprTrees
some_of v = trees_of (map expr_of v.items)

abbrev pub present_of : Option Expr → MaybeExpr
present_of e = maybe_of (option_map expr_of e)

abbrev pub arms_of_vec : {A : Type 0} → Vec Arm A → List (ExprTree × ExprTree)
arms_of_vec v = map arm_of v.items

abbrev pub term_list_of : {A : Type 0} → Vec OrderingTerm A → List (ExprTree × Direction)
term_list_of v = map term_of v.items

-- the same as one tree
abbrev pub order_of : {A : Type 0} → Vec OrderingTerm A → TermTrees
order_of v = terms_of (map term_of v.items)

-- which arguments of a function are numbers alone; of a list, none
abbrev pub numbers_of : Option Function → ℕ → Bool
numbers_of None = nowhere
numbers_of (Some function) = takes_number function
