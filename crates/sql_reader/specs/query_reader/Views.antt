-- What was read, as the grammar's reader tells it.
use Rattle.std.specs.Prelude.{List, Option, Vec, map}
use Rattle.sql_reader_grammar.specs.Reading.{definitions_of, results_of}
use Rattle.sql_reader_syntax.specs.ExprTree.{DefinitionTrees, ExprTrees, MaybeExpr, ResultTree, ResultTrees, WindowTree}
use Rattle.sql_reader_syntax.specs.Tree.{Name}
use Rattle.sql_reader_grammar.specs.statement_trees.TreeView.{definition_of, result_of}
use Rattle.sql_reader_grammar.specs.declared.statement_trees.expressions.Expr.{Expr}
use Rattle.sql_reader_grammar.specs.declared.statement_trees.queries.NamedWindow.{NamedWindow}
use Rattle.sql_reader_grammar.specs.declared.statement_trees.queries.ResultColumn.{ResultColumn}
use Rattle.sql_reader_exprs.specs.window_reader.Views.{present_of, some_of}

abbrev pub column_list_of : {A : Type 0} → Vec ResultColumn A → List ResultTree
column_list_of v = map result_of v.items

-- the same as one tree
abbrev pub columns_of : {A : Type 0} → Vec ResultColumn A → ResultTrees
columns_of v = results_of (map result_of v.items)

abbrev pub definition_list_of : {A : Type 0} → Vec NamedWindow A → List (Name × WindowTree)
definition_list_of v = map definition_of v.items

-- the same as one tree
abbrev pub definitions_of_vec : {A : Type 0} → Vec NamedWindow A → DefinitionTrees
definitions_of_vec v = definitions_of (map definition_of v.items)

-- GROUP BY and HAVING
abbrev pub groups_of : {A : Type 0} → Vec Expr A × Option Expr → ExprTrees × MaybeExpr
groups_of x = (some_of x.0, present_of x.1)
