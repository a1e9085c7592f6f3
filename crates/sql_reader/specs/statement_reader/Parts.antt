-- What was read, as the grammar's reader tells it.
use Rattle.std.specs.Prelude.{◌-◌, ℕ, ℤ, List, Option, String, Vec, map, option_map}
use Rattle.sql_reader_exprs.specs.clause_reader.Seen.{bytes_of, names_of}
use Rattle.sql_reader.specs.declared.statement_reader.statements.Body.{Body}
use Rattle.sql_reader.specs.declared.statement_reader.statements.Ending.{Ending}
use Rattle.sql_reader_grammar.specs.statement_trees.StatementView.{item_of, whole_of}
use Rattle.sql_reader_grammar.specs.statement_trees.TreeView.{query_of}
use Rattle.sql_reader_grammar.specs.declared.statement_trees.queries.CommonTableExpr.{CommonTableExpr}
use Rattle.sql_reader_syntax.specs.ExprTree.{QueryTree, TermTrees}
use Rattle.sql_reader_syntax.specs.StatementTree.{ItemTree}
use Rattle.sql_reader_syntax.specs.Tree.{Name}
use Rattle.sql_reader_exprs.specs.window_reader.Setting.{Setting}
use Rattle.sql_reader_exprs.specs.window_reader.Views.{order_of}

-- How many levels a token of a statement may stand in whose queries and expressions are read there: these stand in one
-- construct more, which is no level.
abbrev pub levels_at : Setting → ℕ
levels_at s = s.depth - 1

abbrev pub heading_of : {A B : Type 0} → String A × Vec (String A) B → Name × List Name
heading_of x = (bytes_of x.0, names_of x.1)

abbrev pub items_of : {A : Type 0} → Vec CommonTableExpr A → List ItemTree
items_of v = map item_of v.items

abbrev pub ending_of : Ending → TermTrees × (Option ℤ × Option ℤ)
ending_of e = (order_of e.order, (option_map whole_of e.limit, option_map whole_of e.offset))

abbrev pub body_of : Body → QueryTree × (TermTrees × (Option ℤ × Option ℤ))
body_of b = (query_of b.query, ending_of b.ending)

abbrev pub clauses_of : {A : Type 0} → Vec CommonTableExpr A × Body → List ItemTree × (QueryTree × (TermTrees × (Option ℤ × Option ℤ)))
clauses_of x = (items_of x.0, body_of x.1)
