-- A worked statement: WITH x AS (SELECT 1 FROM big b) SELECT 1 FROM x y, (SELECT 1 FROM x) WHERE EXISTS (SELECT 1 FROM item)
use Rattle.std.specs.Prelude.{pos, false, [], ◌∷◌, Some, None, codes}
use Rattle.explain_labels.specs.Labels as spec
use Rattle.sql_reader_syntax.specs.ExprTree.{CoreTree, DefinitionTrees, ExprTree, ExprTrees, FromTree, MaybeExpr, NameTree, OnTree, QueryTree, ResultTree, ResultTrees, SourceTree, TermTrees}
use Rattle.sql_reader_syntax.specs.StatementTree.{StatementTree}
use Rattle.sql_reader_syntax.specs.declared.query.Join.TheVariants.{Inner}

-- SELECT 1 FROM .. WHERE ..
abbrev pub one_from : FromTree → MaybeExpr → QueryTree
one_from from condition =
    QueryTree.Core (CoreTree.Select false (ResultTrees.Result (ResultTree.Value (ExprTree.Number (pos 1)) (NameTree.SourceText (codes "1"))) ResultTrees.No_result)
    from condition ExprTrees.No_more MaybeExpr.Absent DefinitionTrees.No_definition)

abbrev pub all_from : SourceTree → QueryTree
all_from source = one_from (FromTree.First source) MaybeExpr.Absent

abbrev pub statement : StatementTree
statement = record {
  explain = false;
  items = record { name = codes "x"; columns = []; query = all_from (SourceTree.Named (codes "big") (Some (codes "b"))) } ∷ [];
  query = one_from
      (FromTree.Joined (FromTree.First (SourceTree.Named (codes "X") (Some (codes "y")))) Inner (SourceTree.Derived (all_from (SourceTree.Named (codes "x") None)) None) OnTree.Always)
      (MaybeExpr.Present (ExprTree.Exists (all_from (SourceTree.Named (codes "item") None))));
  order = TermTrees.No_term;
  limit = None;
  offset = None;
}

-- of a query of one SELECT over one source
abbrev pub over : spec.Label → spec.QueryLabels
over label = spec.first (spec.select (spec.label label spec.no_source) spec.no_query) spec.no_select

abbrev pub labels : spec.StatementLabels
labels = record {
  items = record { name = codes "x"; query = over (spec.table (Some (codes "b"))) } ∷ [];
  query = spec.first
      (spec.select (spec.label (spec.item 0 (Some (codes "y"))) (spec.label (spec.derived (over (spec.item 0 None)) None) spec.no_source))
      (spec.inner (over (spec.table None)) spec.no_query))
      spec.no_select;
}
