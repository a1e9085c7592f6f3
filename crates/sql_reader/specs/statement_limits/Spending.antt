-- How many sources may still be written behind a phrase, if its SELECTs are within the limits. No public clause cites it.
use Rattle.std.specs.Prelude.{ℕ, ◌-◌, List, [], ◌∷◌, Option, None, Some, option_and_then, nat_le, if◌then◌else◌}
use Rattle.sql_reader_grammar.specs.phrases.Texts.{max_columns}
use Rattle.sql_reader.specs.statement_limits.Limits.{columns_of_core, count_from, count_results, max_sources, sources_of_core}
use Rattle.sql_reader_grammar.specs.statement_trees.TreeView.{JoinedTree}
use Rattle.sql_reader_syntax.specs.ExprTree.{
  ArmTrees,
  BehindTree,
  CoreTree,
  DefinitionTrees,
  ExprTree,
  ExprTrees,
  FromTree,
  MaybeExpr,
  OnTree,
  OverTree,
  QueryTree,
  ResultTree,
  ResultTrees,
  SourceTree,
  TermTrees,
  WindowTree,
}
use Rattle.sql_reader_syntax.specs.StatementTree.{ItemTree, StatementTree}
use Rattle.sql_reader_syntax.specs.declared.query.CompoundOperator.{CompoundOperator}

infixl 10 ◌>>=◌
abbrev pub ◌>>=◌ : Option ℕ → (ℕ → Option ℕ) → Option ℕ
o >>= f = option_and_then f o

-- behind a SELECT of so many columns and sources, without those inside it
abbrev pub spent : ℕ → ℕ → ℕ → Option ℕ
spent left columns sources =
    if nat_le columns max_columns
    then (if nat_le sources max_sources then (if nat_le sources left then Some (left - sources) else None) else None)
    else None

abbrev pub without : ℕ → CoreTree → Option ℕ
without left c = spent left (columns_of_core c) (sources_of_core c)

abbrev mutual
  pub after_expr : ExprTree → ℕ → Option ℕ
  after_expr ExprTree.Null left = Some left
  after_expr (ExprTree.Number n) left = Some left
  after_expr (ExprTree.Text content) left = Some left
  after_expr (ExprTree.Blob bytes) left = Some left
  after_expr (ExprTree.Column table name) left = Some left
  after_expr (ExprTree.Prefix op e) left = after_expr e left
  after_expr (ExprTree.Binary op x y) left = after_expr x left >>= after_expr y
  after_expr (ExprTree.Postfix op e) left = after_expr e left
  after_expr (ExprTree.Between n e x y) left = after_expr e left >>= λ l. after_expr x l >>= after_expr y
  after_expr (ExprTree.In n e es) left = after_expr e left >>= after_exprs es
  after_expr (ExprTree.InQuery n e query) left = after_expr e left >>= after_query query
  after_expr (ExprTree.Exists query) left = after_query query left
  after_expr (ExprTree.CountRows behind) left = after_behind behind left
  after_expr (ExprTree.Call function es behind) left = after_exprs es left >>= after_behind behind
  after_expr (ExprTree.Case operand arms otherwise) left =
      after_maybe operand left >>= λ l. after_arms arms l >>= after_maybe otherwise

  pub after_exprs : ExprTrees → ℕ → Option ℕ
  after_exprs ExprTrees.No_more left = Some left
  after_exprs (ExprTrees.More e es) left = after_expr e left >>= after_exprs es

  pub after_maybe : MaybeExpr → ℕ → Option ℕ
  after_maybe MaybeExpr.Absent left = Some left
  after_maybe (MaybeExpr.Present e) left = after_expr e left

  pub after_arms : ArmTrees → ℕ → Option ℕ
  after_arms ArmTrees.No_arm left = Some left
  after_arms (ArmTrees.Arm x y arms) left = after_expr x left >>= λ l. after_expr y l >>= after_arms arms

  pub after_behind : BehindTree → ℕ → Option ℕ
  after_behind (BehindTree.Behind filter over) left = after_maybe filter left >>= after_over over

  pub after_over : OverTree → ℕ → Option ℕ
  after_over OverTree.No_over left = Some left
  after_over (OverTree.OverName name) left = Some left
  after_over (OverTree.Over window) left = after_window window left

  pub after_window : WindowTree → ℕ → Option ℕ
  after_window (WindowTree.Window partition order frame) left = after_exprs partition left >>= after_terms order

  pub after_terms : TermTrees → ℕ → Option ℕ
  after_terms TermTrees.No_term left = Some left
  after_terms (TermTrees.Term e direction terms) left = after_expr e left >>= after_terms terms

  pub after_result : ResultTree → ℕ → Option ℕ
  after_result ResultTree.All left = Some left
  after_result (ResultTree.AllOf table) left = Some left
  after_result (ResultTree.Value e name) left = after_expr e left

  pub after_results : ResultTrees → ℕ → Option ℕ
  after_results ResultTrees.No_result left = Some left
  after_results (ResultTrees.Result r rs) left = after_result r left >>= after_results rs

  pub after_source : SourceTree → ℕ → Option ℕ
  after_source (SourceTree.Named name alias) left = Some left
  after_source (SourceTree.Derived query alias) left = after_query query left

  pub after_on : OnTree → ℕ → Option ℕ
  after_on OnTree.Always left = Some left
  after_on (OnTree.On e) left = after_expr e left
  after_on (OnTree.Using names) left = Some left

  pub after_from : FromTree → ℕ → Option ℕ
  after_from FromTree.No_source left = Some left
  after_from (FromTree.First source) left = after_source source left
  after_from (FromTree.Joined from join source on) left =
      after_from from left >>= λ l. after_source source l >>= after_on on

  pub after_definitions : DefinitionTrees → ℕ → Option ℕ
  after_definitions DefinitionTrees.No_definition left = Some left
  after_definitions (DefinitionTrees.Definition name window windows) left =
      after_window window left >>= after_definitions windows

  pub after_core : CoreTree → ℕ → Option ℕ
  after_core (CoreTree.Select distinct results from condition groups having windows) left =
      spent left (count_results results) (count_from from)
      >>= λ l. after_results results l
      >>= λ l. after_from from l
      >>= λ l. after_maybe condition l
      >>= λ l. after_exprs groups l
      >>= λ l. after_maybe having l
      >>= after_definitions windows

  pub after_query : QueryTree → ℕ → Option ℕ
  after_query (QueryTree.Core c) left = after_core c left
  after_query (QueryTree.Compound query op c) left = after_query query left >>= after_core c

abbrev pub after_items : List ItemTree → ℕ → Option ℕ
after_items [] left = Some left
after_items (item ∷ items) left = after_query item.query left >>= after_items items

abbrev pub after_statement : StatementTree → ℕ → Option ℕ
after_statement s left = after_items s.items left >>= λ l. after_query s.query l >>= after_terms s.order

-- Behind what stands behind the first of several

abbrev pub after_joined : List JoinedTree → ℕ → Option ℕ
after_joined [] left = Some left
after_joined (j ∷ js) left = after_source j.1.0 left >>= λ l. after_on j.1.1 l >>= after_joined js

abbrev pub after_arranged : List (CompoundOperator × CoreTree) → ℕ → Option ℕ
after_arranged [] left = Some left
after_arranged (a ∷ rest) left = after_core a.1 left >>= after_arranged rest

-- Behind HAVING and WINDOW

abbrev pub after_ends : CoreTree → ℕ → Option ℕ
after_ends (CoreTree.Select distinct results from condition groups having windows) left =
    after_maybe having left >>= after_definitions windows

-- Behind WHERE and GROUP BY, and those

abbrev pub after_clauses : CoreTree → ℕ → Option ℕ
after_clauses (CoreTree.Select distinct results from condition groups having windows) left =
    after_maybe condition left
    >>= λ l. after_exprs groups l
    >>= λ l. after_maybe having l
    >>= after_definitions windows
