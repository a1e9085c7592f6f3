-- Calls of several values.
use Rattle.std.proofs.Common.{◌≡◌, ◌≤◌, List, [], ◌∷◌, length, map, Option, Some, None, refl, arith}
use Rattle.semantics.specs.Query.{AggregateFunction}
use Rattle.semantics_names.specs.Expression.{Answers, Says}
use Rattle.semantics_names.specs.Places.{aggregate_call}
use Rattle.sql_reader_grammar.specs.statement_trees.TreeView.{expr_of}
use Rattle.sql_reader_grammar.specs.declared.statement_trees.expressions.Expr.{Expr}
use Rattle.sql_reader_syntax.specs.ExprTree.{MaybeExpr, trees_of}

-- an aggregate is of one value
pub several_are_none : (answers : Answers) (says : Says) (function : Option AggregateFunction) (items : List Expr) (filter : MaybeExpr)
    → 2 ≤ length items → aggregate_call answers says function (trees_of (map expr_of items)) filter ≡ None
several_are_none answers says None items filter many = refl
several_are_none answers says (Some function) [] filter many = absurd (omega arith)
several_are_none answers says (Some function) (x ∷ []) filter many = absurd (omega arith)
several_are_none answers says (Some function) (x ∷ y ∷ rest) filter many = refl
