-- item(id INTEGER PRIMARY KEY, name TEXT NOT NULL, qty INT), sale(item INT, n INT), and the trees of statements over them.
use Rattle.std.specs.Prelude.{◌≡◌, true, false, ℕ, pos, List, [], ◌∷◌, codes, Option, Some, None, Ok, Err}
use Rattle.values.specs.declared.fault.Fault.{Fault}
use Rattle.values.specs.declared.value.Ty.TheVariants.{Int, Text}
use Rattle.sql_reader_syntax.specs.ExprTree.{ExprTree, ExprTrees, MaybeExpr, BehindTree, CoreTree, DefinitionTrees, FromTree, NameTree, OverTree, QueryTree, ResultTree, ResultTrees, SourceTree, TermTrees, WindowTree, trees_of}
use Rattle.sql_reader_syntax.specs.StatementTree.{ItemTree, StatementTree}
use Rattle.sql_reader_syntax.specs.Tree.{Name}
use Rattle.sql_reader_syntax.specs.declared.expr.Function as functions
use Rattle.sql_reader_syntax.specs.declared.expr.PrefixOperator.TheVariants as prefixes
use Rattle.sql_reader_syntax.specs.declared.query.CompoundOperator.TheVariants.{Union}
use Rattle.sql_reader_syntax.specs.declared.query.Direction as written
use Rattle.sql_reader_syntax.specs.declared.query.Frame as frames
use Rattle.semantics.specs.Query.{Body, Key}
use Rattle.semantics_names.specs.Outcome.{also}
use Rattle.semantics_names.specs.Statement.{Named}
use Rattle.semantics_names.specs.Typed.{Column, Table, typed_query}

abbrev pub whole : Name → Column
whole name = record { name = name; ty = Int }

abbrev pub tables : List Table
tables =
    record { name = codes "item"; columns = whole (codes "id") ∷ record { name = codes "name"; ty = Text } ∷ whole (codes "qty") ∷ [] }
    ∷ record { name = codes "sale"; columns = whole (codes "item") ∷ whole (codes "n") ∷ [] } ∷ []

-- ---- trees

abbrev pub number : ℕ → ExprTree
number n = ExprTree.Number (pos n)

abbrev pub signed : ℕ → ExprTree
signed n = ExprTree.Prefix prefixes.Plus (number n)

abbrev pub name_alone : Name → ExprTree
name_alone name = ExprTree.Column None name

abbrev pub name_of : Name → Name → ExprTree
name_of table name = ExprTree.Column (Some table) name

abbrev pub id : ExprTree
id = name_alone (codes "id")

abbrev pub name : ExprTree
name = name_alone (codes "name")

abbrev pub results_of : List ResultTree → ResultTrees
results_of [] = ResultTrees.No_result
results_of (r ∷ rs) = ResultTrees.Result r (results_of rs)

-- an expression whose source text doesn't matter
abbrev pub shown : ExprTree → ResultTree
shown e = ResultTree.Value e (NameTree.SourceText [])

abbrev pub called : ExprTree → Name → ResultTree
called e alias = ResultTree.Value e (NameTree.Alias alias)

abbrev pub select : List ResultTree → FromTree → QueryTree
select results from =
    QueryTree.Core (CoreTree.Select false (results_of results) from MaybeExpr.Absent ExprTrees.No_more MaybeExpr.Absent DefinitionTrees.No_definition)

abbrev pub select_where : List ResultTree → FromTree → ExprTree → QueryTree
select_where results from condition =
    QueryTree.Core (CoreTree.Select false (results_of results) from
    (MaybeExpr.Present condition) ExprTrees.No_more MaybeExpr.Absent DefinitionTrees.No_definition)

abbrev pub select_by : List ResultTree → FromTree → List ExprTree → QueryTree
select_by results from by =
    QueryTree.Core (CoreTree.Select false (results_of results) from MaybeExpr.Absent (trees_of by) MaybeExpr.Absent DefinitionTrees.No_definition)

abbrev pub select_distinct : List ResultTree → FromTree → QueryTree
select_distinct results from =
    QueryTree.Core (CoreTree.Select true (results_of results) from MaybeExpr.Absent ExprTrees.No_more MaybeExpr.Absent DefinitionTrees.No_definition)

abbrev pub table : Name → SourceTree
table name = SourceTree.Named name None

abbrev pub item : FromTree
item = FromTree.First (table (codes "item"))

abbrev pub ordered : QueryTree → TermTrees → StatementTree
ordered query order = record { explain = false; items = []; query = query; order = order; limit = None; offset = None }

abbrev pub statement : QueryTree → StatementTree
statement query = ordered query TermTrees.No_term

abbrev pub up : written.Direction
up = record { descending = false; nulls_first = true }

abbrev pub by_term : ExprTree → TermTrees
by_term e = TermTrees.Term e up TermTrees.No_term

-- a call with OVER
abbrev pub call_over : functions.Function → List ExprTree → WindowTree → ExprTree
call_over function items w = ExprTree.Call function (trees_of items) (BehindTree.Behind MaybeExpr.Absent (OverTree.Over w))

-- OVER (ORDER BY ..), with this frame
abbrev pub window_by : TermTrees → Option frames.Frame → WindowTree
window_by order frame = WindowTree.Window ExprTrees.No_more order frame

-- SELECT .. FROM .. WINDOW name AS ..
abbrev pub select_windows : List ResultTree → FromTree → DefinitionTrees → QueryTree
select_windows results from windows =
    QueryTree.Core (CoreTree.Select false (results_of results) from MaybeExpr.Absent ExprTrees.No_more MaybeExpr.Absent windows)

-- .. UNION SELECT .., without FROM
abbrev pub union_of : QueryTree → List ResultTree → QueryTree
union_of query results =
    QueryTree.Compound query Union
    (CoreTree.Select false (results_of results) FromTree.No_source MaybeExpr.Absent ExprTrees.No_more MaybeExpr.Absent DefinitionTrees.No_definition)

abbrev pub without_from : List ResultTree → QueryTree
without_from results = select results FromTree.No_source

abbrev pub one : QueryTree
one = without_from (shown (number 1) ∷ [])

abbrev pub with_item : Name → List Name → QueryTree → ItemTree
with_item name columns query = record { name = name; columns = columns; query = query }

abbrev pub with : List ItemTree → QueryTree → StatementTree
with items query = record { explain = false; items = items; query = query; order = TermTrees.No_term; limit = None; offset = None }

abbrev pub from_alias : Name → Name → FromTree
from_alias name alias = FromTree.First (SourceTree.Named name (Some alias))

abbrev pub sales : FromTree
sales = FromTree.First (table (codes "sale"))

-- ---- what is said of them

abbrev pub IsFault : StatementTree → Fault → Type 0
IsFault tree fault = typed_query tables tree ≡ Err fault

-- what is compared of a query: what it computes, its ORDER BY, and its columns' names
pub record Told : Type 0 where
  pub body : Body
  pub order : List Key
  pub names : List Name

abbrev pub told : Named → Told
told n = record { body = n.query.body; order = n.query.order; names = n.names }

abbrev pub IsQuery : StatementTree → Body → List Key → List Name → Type 0
IsQuery tree body order names = also told (typed_query tables tree) ≡ Ok (record { body = body; order = order; names = names })
