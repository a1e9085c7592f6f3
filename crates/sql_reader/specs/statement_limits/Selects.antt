-- The SELECTs that stand in a phrase, each before those inside it. (SELECT)
use Rattle.std.specs.Prelude.{List, [], ◌∷◌, ◌++◌}
use Rattle.sql_reader_syntax.specs.ExprTree.{
  ArmTrees,
  BehindTree,
  CoreTree,
  DefinitionTrees,
  ExprTree,
  ExprTrees,
  FromTree,
  MaybeExpr,
  OnTree,
  OverTree,
  QueryTree,
  ResultTree,
  ResultTrees,
  SourceTree,
  TermTrees,
  WindowTree,
}
use Rattle.sql_reader_syntax.specs.StatementTree.{ItemTree, StatementTree}

abbrev mutual
  pub in_expr : ExprTree → List CoreTree
  in_expr ExprTree.Null = []
  in_expr (ExprTree.Number n) = []
  in_expr (ExprTree.Text content) = []
  in_expr (ExprTree.Blob bytes) = []
  in_expr (ExprTree.Column table name) = []
  in_expr (ExprTree.Prefix op e) = in_expr e
  in_expr (ExprTree.Binary op x y) = in_expr x ++ in_expr y
  in_expr (ExprTree.Postfix op e) = in_expr e
  in_expr (ExprTree.Between n e x y) = in_expr e ++ (in_expr x ++ in_expr y)
  in_expr (ExprTree.In n e es) = in_expr e ++ in_exprs es
  in_expr (ExprTree.InQuery n e query) = in_expr e ++ in_query query
  in_expr (ExprTree.Exists query) = in_query query
  in_expr (ExprTree.CountRows behind) = in_behind behind
  in_expr (ExprTree.Call function es behind) = in_exprs es ++ in_behind behind
  in_expr (ExprTree.Case operand arms otherwise) = in_maybe operand ++ (in_arms arms ++ in_maybe otherwise)

  pub in_exprs : ExprTrees → List CoreTree
  in_exprs ExprTrees.No_more = []
  in_exprs (ExprTrees.More e es) = in_expr e ++ in_exprs es

  pub in_maybe : MaybeExpr → List CoreTree
  in_maybe MaybeExpr.Absent = []
  in_maybe (MaybeExpr.Present e) = in_expr e

  pub in_arms : ArmTrees → List CoreTree
  in_arms ArmTrees.No_arm = []
  in_arms (ArmTrees.Arm x y arms) = in_expr x ++ (in_expr y ++ in_arms arms)

  pub in_behind : BehindTree → List CoreTree
  in_behind (BehindTree.Behind filter over) = in_maybe filter ++ in_over over

  pub in_over : OverTree → List CoreTree
  in_over OverTree.No_over = []
  in_over (OverTree.OverName name) = []
  in_over (OverTree.Over window) = in_window window

  pub in_window : WindowTree → List CoreTree
  in_window (WindowTree.Window partition order frame) = in_exprs partition ++ in_terms order

  pub in_terms : TermTrees → List CoreTree
  in_terms TermTrees.No_term = []
  in_terms (TermTrees.Term e direction terms) = in_expr e ++ in_terms terms

  pub in_result : ResultTree → List CoreTree
  in_result ResultTree.All = []
  in_result (ResultTree.AllOf table) = []
  in_result (ResultTree.Value e name) = in_expr e

  pub in_results : ResultTrees → List CoreTree
  in_results ResultTrees.No_result = []
  in_results (ResultTrees.Result r rs) = in_result r ++ in_results rs

  pub in_source : SourceTree → List CoreTree
  in_source (SourceTree.Named name alias) = []
  in_source (SourceTree.Derived query alias) = in_query query

  pub in_on : OnTree → List CoreTree
  in_on OnTree.Always = []
  in_on (OnTree.On e) = in_expr e
  in_on (OnTree.Using names) = []

  pub in_from : FromTree → List CoreTree
  in_from FromTree.No_source = []
  in_from (FromTree.First source) = in_source source
  in_from (FromTree.Joined from join source on) = in_from from ++ (in_source source ++ in_on on)

  pub in_definitions : DefinitionTrees → List CoreTree
  in_definitions DefinitionTrees.No_definition = []
  in_definitions (DefinitionTrees.Definition name window windows) = in_window window ++ in_definitions windows

  -- with itself
  pub in_core : CoreTree → List CoreTree
  in_core (CoreTree.Select distinct results from condition groups having windows) =
      CoreTree.Select distinct results from condition groups having windows
      ∷ (in_results results
      ++ (in_from from ++ (in_maybe condition ++ (in_exprs groups ++ (in_maybe having ++ in_definitions windows)))))

  pub in_query : QueryTree → List CoreTree
  in_query (QueryTree.Core c) = in_core c
  in_query (QueryTree.Compound query op c) = in_query query ++ in_core c

abbrev pub in_items : List ItemTree → List CoreTree
in_items [] = []
in_items (item ∷ items) = in_query item.query ++ in_items items

abbrev pub in_statement : StatementTree → List CoreTree
in_statement s = in_items s.items ++ (in_query s.query ++ in_terms s.order)
