-- What the program's expressions and queries are.
use Rattle.std.specs.Prelude.{List, [], ◌∷◌, Option, Some, None, map, option_map, string_bytes}
use Rattle.sql_reader_syntax.specs.ExprTree.{
  BehindTree,
  CoreTree,
  ExprTree,
  FromTree,
  MaybeExpr,
  NameTree,
  OnTree,
  OverTree,
  QueryTree,
  ResultTree,
  SourceTree,
  WindowTree,
  arms_of,
  trees_of,
}
use Rattle.sql_reader_syntax.specs.NameView.{name_of}
use Rattle.sql_reader_syntax.specs.Tree.{Name}
use Rattle.sql_reader_grammar.specs.Reading.{definitions_of, results_of, terms_of}
use Rattle.sql_reader_grammar.specs.declared.statement_trees.expressions.Arm.{Arm}
use Rattle.sql_reader_grammar.specs.declared.statement_trees.expressions.CallSuffix.{CallSuffix}
use Rattle.sql_reader_grammar.specs.declared.statement_trees.expressions.Expr.{Expr}
use Rattle.sql_reader_grammar.specs.declared.statement_trees.expressions.Expr.TheFolds as folds
use Rattle.sql_reader_grammar.specs.declared.statement_trees.expressions.Expr.TheOpen as f
use Rattle.sql_reader_grammar.specs.declared.statement_trees.expressions.Over.{Over}
use Rattle.sql_reader_grammar.specs.declared.statement_trees.expressions.OrderingTerm.{OrderingTerm}
use Rattle.sql_reader_grammar.specs.declared.statement_trees.expressions.Window.{Window}
use Rattle.sql_reader_syntax.specs.declared.query.CompoundOperator.{CompoundOperator}
use Rattle.sql_reader_syntax.specs.declared.query.Direction.{Direction}
use Rattle.sql_reader_syntax.specs.declared.query.Join.{Join}
use Rattle.sql_reader_syntax.specs.ExprView.{maybe_of}
use Rattle.sql_reader_grammar.specs.declared.statement_trees.queries.CompoundArm.{CompoundArm}
use Rattle.sql_reader_grammar.specs.declared.statement_trees.queries.SelectCore.{SelectCore}
use Rattle.sql_reader_grammar.specs.declared.statement_trees.queries.JoinCondition.{JoinCondition}
use Rattle.sql_reader_grammar.specs.declared.statement_trees.queries.Joined.{Joined}
use Rattle.sql_reader_grammar.specs.declared.statement_trees.queries.NamedWindow.{NamedWindow}
use Rattle.sql_reader_grammar.specs.declared.statement_trees.queries.Query.{Query}
use Rattle.sql_reader_grammar.specs.declared.statement_trees.queries.ResultColumn.{ResultColumn}
use Rattle.sql_reader_grammar.specs.declared.statement_trees.queries.Source.{Source}
use Rattle.sql_reader_grammar.specs.declared.statement_trees.queries.Sources.{Sources}

-- Lists that are joined from the left

-- a source, with how it is joined and on what
abbrev pub JoinedTree : Type 0
JoinedTree = Join × (SourceTree × OnTree)

abbrev pub joined_all : FromTree → List JoinedTree → FromTree
joined_all from [] = from
joined_all from (j ∷ js) = joined_all (FromTree.Joined from j.0 j.1.0 j.1.1) js

abbrev pub maybe_from : Option FromTree → FromTree
maybe_from None = FromTree.No_source
maybe_from (Some from) = from

abbrev pub compounds_of : QueryTree → List (CompoundOperator × CoreTree) → QueryTree
compounds_of query [] = query
compounds_of query (c ∷ cs) = compounds_of (QueryTree.Compound query c.0 c.1) cs

-- One node of each kind, with the tree of each child in its place

abbrev pub expr_node : f.Expr-F ExprTree OverTree OnTree ResultTree SourceTree (ExprTree × ExprTree) BehindTree
    (ExprTree × Direction) WindowTree (CompoundOperator × CoreTree) JoinedTree (Name × WindowTree) QueryTree CoreTree
    FromTree → ExprTree
expr_node f.Expr-F.Null = ExprTree.Null
expr_node (f.Expr-F.Number n) = ExprTree.Number n
expr_node (f.Expr-F.Text content) = ExprTree.Text (string_bytes content)
expr_node (f.Expr-F.Blob bytes) = ExprTree.Blob bytes.items
expr_node (f.Expr-F.Column table name) = ExprTree.Column (option_map (λ table. string_bytes table) table) (string_bytes name)
expr_node (f.Expr-F.Prefix op e) = ExprTree.Prefix op e.value
expr_node (f.Expr-F.Binary op x y) = ExprTree.Binary op x.value y.value
expr_node (f.Expr-F.Postfix op e) = ExprTree.Postfix op e.value
expr_node (f.Expr-F.Between negated e x y) = ExprTree.Between negated e.value x.value y.value
expr_node (f.Expr-F.In negated e es) = ExprTree.In negated e.value (trees_of es.items)
expr_node (f.Expr-F.InQuery negated e query) = ExprTree.InQuery negated e.value query.value
expr_node (f.Expr-F.Exists query) = ExprTree.Exists query.value
expr_node (f.Expr-F.CountRows behind) = ExprTree.CountRows behind
expr_node (f.Expr-F.Call function es behind) = ExprTree.Call function (trees_of es.items) behind
expr_node (f.Expr-F.Case operand arms otherwise) =
    ExprTree.Case (maybe_of (option_map (λ e. e.value) operand)) (arms_of arms.items)
    (maybe_of (option_map (λ e. e.value) otherwise))

abbrev pub over_node : f.Over-F ExprTree OverTree OnTree ResultTree SourceTree (ExprTree × ExprTree) BehindTree
    (ExprTree × Direction) WindowTree (CompoundOperator × CoreTree) JoinedTree (Name × WindowTree) QueryTree CoreTree
    FromTree → OverTree
over_node f.Over-F.Absent = OverTree.No_over
over_node (f.Over-F.Name name) = OverTree.OverName (string_bytes name)
over_node (f.Over-F.Window window) = OverTree.Over window.value

abbrev pub on_node : f.JoinCondition-F ExprTree OverTree OnTree ResultTree SourceTree (ExprTree × ExprTree) BehindTree
    (ExprTree × Direction) WindowTree (CompoundOperator × CoreTree) JoinedTree (Name × WindowTree) QueryTree CoreTree
    FromTree → OnTree
on_node f.JoinCondition-F.Always = OnTree.Always
on_node (f.JoinCondition-F.On e) = OnTree.On e
on_node (f.JoinCondition-F.Using names) = OnTree.Using (map (λ name. string_bytes name) names.items)

abbrev pub result_node : f.ResultColumn-F ExprTree OverTree OnTree ResultTree SourceTree (ExprTree × ExprTree)
    BehindTree (ExprTree × Direction) WindowTree (CompoundOperator × CoreTree) JoinedTree (Name × WindowTree)
    QueryTree CoreTree FromTree → ResultTree
result_node f.ResultColumn-F.All = ResultTree.All
result_node (f.ResultColumn-F.AllOf table) = ResultTree.AllOf (string_bytes table)
result_node (f.ResultColumn-F.Value e name) = ResultTree.Value e (name_of name)

abbrev pub source_node : f.Source-F ExprTree OverTree OnTree ResultTree SourceTree (ExprTree × ExprTree) BehindTree
    (ExprTree × Direction) WindowTree (CompoundOperator × CoreTree) JoinedTree (Name × WindowTree) QueryTree CoreTree
    FromTree → SourceTree
source_node (f.Source-F.Table name alias) = SourceTree.Named (string_bytes name) (option_map (λ alias. string_bytes alias) alias)
source_node (f.Source-F.Derived query alias) = SourceTree.Derived query.value (option_map (λ alias. string_bytes alias) alias)

abbrev pub arm_node : f.Arm-F ExprTree OverTree OnTree ResultTree SourceTree (ExprTree × ExprTree) BehindTree
    (ExprTree × Direction) WindowTree (CompoundOperator × CoreTree) JoinedTree (Name × WindowTree) QueryTree CoreTree
    FromTree → ExprTree × ExprTree
arm_node a = (a.when, a.then)

abbrev pub behind_node : f.CallSuffix-F ExprTree OverTree OnTree ResultTree SourceTree (ExprTree × ExprTree) BehindTree
    (ExprTree × Direction) WindowTree (CompoundOperator × CoreTree) JoinedTree (Name × WindowTree) QueryTree CoreTree
    FromTree → BehindTree
behind_node b = BehindTree.Behind (maybe_of (option_map (λ e. e.value) b.filter)) b.over

abbrev pub term_node : f.OrderingTerm-F ExprTree OverTree OnTree ResultTree SourceTree (ExprTree × ExprTree) BehindTree
    (ExprTree × Direction) WindowTree (CompoundOperator × CoreTree) JoinedTree (Name × WindowTree) QueryTree CoreTree
    FromTree → ExprTree × Direction
term_node t = (t.value, t.direction)

abbrev pub window_node : f.Window-F ExprTree OverTree OnTree ResultTree SourceTree (ExprTree × ExprTree) BehindTree
    (ExprTree × Direction) WindowTree (CompoundOperator × CoreTree) JoinedTree (Name × WindowTree) QueryTree CoreTree
    FromTree → WindowTree
window_node w = WindowTree.Window (trees_of w.partition.items) (terms_of w.order.items) w.frame

abbrev pub arranged_node : f.CompoundArm-F ExprTree OverTree OnTree ResultTree SourceTree (ExprTree × ExprTree)
    BehindTree (ExprTree × Direction) WindowTree (CompoundOperator × CoreTree) JoinedTree (Name × WindowTree)
    QueryTree CoreTree FromTree → CompoundOperator × CoreTree
arranged_node a = (a.operator, a.core)

abbrev pub core_node : f.SelectCore-F ExprTree OverTree OnTree ResultTree SourceTree (ExprTree × ExprTree) BehindTree
    (ExprTree × Direction) WindowTree (CompoundOperator × CoreTree) JoinedTree (Name × WindowTree) QueryTree CoreTree
    FromTree → CoreTree
core_node c =
    CoreTree.Select c.distinct (results_of c.columns.items) (maybe_from c.sources) (maybe_of c.condition)
    (trees_of c.groups.items) (maybe_of c.having) (definitions_of c.windows.items)

abbrev pub joined_node : f.Joined-F ExprTree OverTree OnTree ResultTree SourceTree (ExprTree × ExprTree) BehindTree
    (ExprTree × Direction) WindowTree (CompoundOperator × CoreTree) JoinedTree (Name × WindowTree) QueryTree CoreTree
    FromTree → JoinedTree
joined_node j = (j.join, (j.source, j.condition))

abbrev pub definition_node : f.NamedWindow-F ExprTree OverTree OnTree ResultTree SourceTree (ExprTree × ExprTree)
    BehindTree (ExprTree × Direction) WindowTree (CompoundOperator × CoreTree) JoinedTree (Name × WindowTree)
    QueryTree CoreTree FromTree → Name × WindowTree
definition_node w = (string_bytes w.name, w.window)

abbrev pub query_node : f.Query-F ExprTree OverTree OnTree ResultTree SourceTree (ExprTree × ExprTree) BehindTree
    (ExprTree × Direction) WindowTree (CompoundOperator × CoreTree) JoinedTree (Name × WindowTree) QueryTree CoreTree
    FromTree → QueryTree
query_node q = compounds_of (QueryTree.Core q.first) q.others.items

abbrev pub sources_node : f.Sources-F ExprTree OverTree OnTree ResultTree SourceTree (ExprTree × ExprTree) BehindTree
    (ExprTree × Direction) WindowTree (CompoundOperator × CoreTree) JoinedTree (Name × WindowTree) QueryTree CoreTree
    FromTree → FromTree
sources_node s = joined_all (FromTree.First s.first) s.others.items

-- Whole trees

abbrev pub expr_of : Expr → ExprTree
expr_of =
    folds.fold-Expr ExprTree OverTree OnTree ResultTree SourceTree (ExprTree × ExprTree) BehindTree
    (ExprTree × Direction) WindowTree (CompoundOperator × CoreTree) JoinedTree (Name × WindowTree) QueryTree CoreTree
    FromTree expr_node over_node on_node result_node source_node arm_node behind_node term_node window_node
    arranged_node joined_node definition_node query_node core_node sources_node

abbrev pub over_of : Over → OverTree
over_of =
    folds.fold-Over ExprTree OverTree OnTree ResultTree SourceTree (ExprTree × ExprTree) BehindTree
    (ExprTree × Direction) WindowTree (CompoundOperator × CoreTree) JoinedTree (Name × WindowTree) QueryTree CoreTree
    FromTree expr_node over_node on_node result_node source_node arm_node behind_node term_node window_node
    arranged_node joined_node definition_node query_node core_node sources_node

abbrev pub on_of : JoinCondition → OnTree
on_of =
    folds.fold-JoinCondition ExprTree OverTree OnTree ResultTree SourceTree (ExprTree × ExprTree) BehindTree
    (ExprTree × Direction) WindowTree (CompoundOperator × CoreTree) JoinedTree (Name × WindowTree) QueryTree CoreTree
    FromTree expr_node over_node on_node result_node source_node arm_node behind_node term_node window_node
    arranged_node joined_node definition_node query_node core_node sources_node

abbrev pub result_of : ResultColumn → ResultTree
result_of =
    folds.fold-ResultColumn ExprTree OverTree OnTree ResultTree SourceTree (ExprTree × ExprTree) BehindTree
    (ExprTree × Direction) WindowTree (CompoundOperator × CoreTree) JoinedTree (Name × WindowTree) QueryTree CoreTree
    FromTree expr_node over_node on_node result_node source_node arm_node behind_node term_node window_node
    arranged_node joined_node definition_node query_node core_node sources_node

abbrev pub source_of : Source → SourceTree
source_of =
    folds.fold-Source ExprTree OverTree OnTree ResultTree SourceTree (ExprTree × ExprTree) BehindTree
    (ExprTree × Direction) WindowTree (CompoundOperator × CoreTree) JoinedTree (Name × WindowTree) QueryTree CoreTree
    FromTree expr_node over_node on_node result_node source_node arm_node behind_node term_node window_node
    arranged_node joined_node definition_node query_node core_node sources_node

abbrev pub arm_of : Arm → ExprTree × ExprTree
arm_of =
    folds.fold-Arm ExprTree OverTree OnTree ResultTree SourceTree (ExprTree × ExprTree) BehindTree
    (ExprTree × Direction) WindowTree (CompoundOperator × CoreTree) JoinedTree (Name × WindowTree) QueryTree CoreTree
    FromTree expr_node over_node on_node result_node source_node arm_node behind_node term_node window_node
    arranged_node joined_node definition_node query_node core_node sources_node

abbrev pub behind_of : CallSuffix → BehindTree
behind_of =
    folds.fold-CallSuffix ExprTree OverTree OnTree ResultTree SourceTree (ExprTree × ExprTree) BehindTree
    (ExprTree × Direction) WindowTree (CompoundOperator × CoreTree) JoinedTree (Name × WindowTree) QueryTree CoreTree
    FromTree expr_node over_node on_node result_node source_node arm_node behind_node term_node window_node
    arranged_node joined_node definition_node query_node core_node sources_node

abbrev pub term_of : OrderingTerm → ExprTree × Direction
term_of =
    folds.fold-OrderingTerm ExprTree OverTree OnTree ResultTree SourceTree (ExprTree × ExprTree) BehindTree
    (ExprTree × Direction) WindowTree (CompoundOperator × CoreTree) JoinedTree (Name × WindowTree) QueryTree CoreTree
    FromTree expr_node over_node on_node result_node source_node arm_node behind_node term_node window_node
    arranged_node joined_node definition_node query_node core_node sources_node

abbrev pub window_of : Window → WindowTree
window_of =
    folds.fold-Window ExprTree OverTree OnTree ResultTree SourceTree (ExprTree × ExprTree) BehindTree
    (ExprTree × Direction) WindowTree (CompoundOperator × CoreTree) JoinedTree (Name × WindowTree) QueryTree CoreTree
    FromTree expr_node over_node on_node result_node source_node arm_node behind_node term_node window_node
    arranged_node joined_node definition_node query_node core_node sources_node

abbrev pub arranged_of : CompoundArm → CompoundOperator × CoreTree
arranged_of =
    folds.fold-CompoundArm ExprTree OverTree OnTree ResultTree SourceTree (ExprTree × ExprTree) BehindTree
    (ExprTree × Direction) WindowTree (CompoundOperator × CoreTree) JoinedTree (Name × WindowTree) QueryTree CoreTree
    FromTree expr_node over_node on_node result_node source_node arm_node behind_node term_node window_node
    arranged_node joined_node definition_node query_node core_node sources_node

abbrev pub core_of : SelectCore → CoreTree
core_of =
    folds.fold-SelectCore ExprTree OverTree OnTree ResultTree SourceTree (ExprTree × ExprTree) BehindTree
    (ExprTree × Direction) WindowTree (CompoundOperator × CoreTree) JoinedTree (Name × WindowTree) QueryTree CoreTree
    FromTree expr_node over_node on_node result_node source_node arm_node behind_node term_node window_node
    arranged_node joined_node definition_node query_node core_node sources_node

abbrev pub joined_of : Joined → JoinedTree
joined_of =
    folds.fold-Joined ExprTree OverTree OnTree ResultTree SourceTree (ExprTree × ExprTree) BehindTree
    (ExprTree × Direction) WindowTree (CompoundOperator × CoreTree) JoinedTree (Name × WindowTree) QueryTree CoreTree
    FromTree expr_node over_node on_node result_node source_node arm_node behind_node term_node window_node
    arranged_node joined_node definition_node query_node core_node sources_node

abbrev pub definition_of : NamedWindow → Name × WindowTree
definition_of =
    folds.fold-NamedWindow ExprTree OverTree OnTree ResultTree SourceTree (ExprTree × ExprTree) BehindTree
    (ExprTree × Direction) WindowTree (CompoundOperator × CoreTree) JoinedTree (Name × WindowTree) QueryTree CoreTree
    FromTree expr_node over_node on_node result_node source_node arm_node behind_node term_node window_node
    arranged_node joined_node definition_node query_node core_node sources_node

abbrev pub query_of : Query → QueryTree
query_of =
    folds.fold-Query ExprTree OverTree OnTree ResultTree SourceTree (ExprTree × ExprTree) BehindTree
    (ExprTree × Direction) WindowTree (CompoundOperator × CoreTree) JoinedTree (Name × WindowTree) QueryTree CoreTree
    FromTree expr_node over_node on_node result_node source_node arm_node behind_node term_node window_node
    arranged_node joined_node definition_node query_node core_node sources_node

abbrev pub sources_of : Sources → FromTree
sources_of =
    folds.fold-Sources ExprTree OverTree OnTree ResultTree SourceTree (ExprTree × ExprTree) BehindTree
    (ExprTree × Direction) WindowTree (CompoundOperator × CoreTree) JoinedTree (Name × WindowTree) QueryTree CoreTree
    FromTree expr_node over_node on_node result_node source_node arm_node behind_node term_node window_node
    arranged_node joined_node definition_node query_node core_node sources_node
