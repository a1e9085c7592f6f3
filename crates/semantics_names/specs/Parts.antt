-- The parts of expressions, in the order in which they are written. (SQL Language Expressions)
use Rattle.std.specs.Prelude.{List, [], ◌∷◌, ◌++◌, Option, Some, None}
use Rattle.std.specs.List.{filter_map}
use Rattle.sql_reader_syntax.specs.ExprTree.{ExprTree, ExprTrees, MaybeExpr, ArmTrees, BehindTree, CoreTree, DefinitionTrees, FromTree, OnTree, OverTree, ResultTree, ResultTrees, TermTrees, WindowTree}
use Rattle.semantics_names.specs.Expression.{InnerTree}

abbrev mutual
  -- an expression behind its parts; what stands in a query inside it is none of these
  pub parts : ExprTree → List ExprTree
  parts (ExprTree.Prefix op x) = parts x ++ ExprTree.Prefix op x ∷ []
  parts (ExprTree.Binary op x y) = parts x ++ parts y ++ ExprTree.Binary op x y ∷ []
  parts (ExprTree.Postfix op x) = parts x ++ ExprTree.Postfix op x ∷ []
  parts (ExprTree.Between not x low high) = parts x ++ parts low ++ parts high ++ ExprTree.Between not x low high ∷ []
  parts (ExprTree.In not x items) = parts x ++ all_parts items ++ ExprTree.In not x items ∷ []
  parts (ExprTree.InQuery not x query) = parts x ++ ExprTree.InQuery not x query ∷ []
  parts (ExprTree.CountRows after) = behind_parts after ++ ExprTree.CountRows after ∷ []
  parts (ExprTree.Call f items after) = all_parts items ++ behind_parts after ++ ExprTree.Call f items after ∷ []
  parts (ExprTree.Case operand arms otherwise) =
      maybe_parts operand ++ arms_parts arms ++ maybe_parts otherwise ++ ExprTree.Case operand arms otherwise ∷ []
  parts e = e ∷ []

  pub all_parts : ExprTrees → List ExprTree
  all_parts ExprTrees.No_more = []
  all_parts (ExprTrees.More e es) = parts e ++ all_parts es

  pub maybe_parts : MaybeExpr → List ExprTree
  maybe_parts MaybeExpr.Absent = []
  maybe_parts (MaybeExpr.Present e) = parts e

  pub arms_parts : ArmTrees → List ExprTree
  arms_parts ArmTrees.No_arm = []
  arms_parts (ArmTrees.Arm when then rest) = parts when ++ parts then ++ arms_parts rest

  pub behind_parts : BehindTree → List ExprTree
  behind_parts (BehindTree.Behind filter over) = maybe_parts filter ++ over_parts over

  pub over_parts : OverTree → List ExprTree
  over_parts OverTree.No_over = []
  over_parts (OverTree.OverName name) = []
  over_parts (OverTree.Over w) = window_parts w

  pub window_parts : WindowTree → List ExprTree
  window_parts (WindowTree.Window partition order frame) = all_parts partition ++ terms_parts order

  pub terms_parts : TermTrees → List ExprTree
  terms_parts TermTrees.No_term = []
  terms_parts (TermTrees.Term e direction rest) = parts e ++ terms_parts rest

abbrev pub result_parts : ResultTree → List ExprTree
result_parts (ResultTree.Value e title) = parts e
result_parts _ = []

abbrev pub results_parts : ResultTrees → List ExprTree
results_parts ResultTrees.No_result = []
results_parts (ResultTrees.Result r rest) = result_parts r ++ results_parts rest

abbrev pub on_parts : OnTree → List ExprTree
on_parts (OnTree.On e) = parts e
on_parts _ = []

abbrev pub from_parts : FromTree → List ExprTree
from_parts (FromTree.Joined from join source on) = from_parts from ++ on_parts on
from_parts _ = []

abbrev pub definitions_parts : DefinitionTrees → List ExprTree
definitions_parts DefinitionTrees.No_definition = []
definitions_parts (DefinitionTrees.Definition name w rest) = window_parts w ++ definitions_parts rest

-- those of a SELECT that are computed over its groups, where it has groups: result columns, HAVING, WINDOW, ORDER BY
abbrev pub parts_behind_groups : CoreTree → TermTrees → List ExprTree
parts_behind_groups (CoreTree.Select distinct results from condition by having windows) order =
    results_parts results ++ maybe_parts having ++ definitions_parts windows ++ terms_parts order

-- all of a SELECT
abbrev pub core_parts : CoreTree → TermTrees → List ExprTree
core_parts (CoreTree.Select distinct results from condition by having windows) order =
    results_parts results ++ from_parts from ++ maybe_parts condition ++ all_parts by ++ maybe_parts having
    ++ definitions_parts windows ++ terms_parts order

-- the query that a part has inside it
abbrev pub inner_tree : ExprTree → Option InnerTree
inner_tree (ExprTree.InQuery not x query) = Some (InnerTree.values_in query)
inner_tree (ExprTree.Exists query) = Some (InnerTree.exists_in query)
inner_tree _ = None

-- the queries inside the expressions of a SELECT, and its ORDER BY
abbrev pub inner_trees : CoreTree → TermTrees → List InnerTree
inner_trees core order = filter_map inner_tree (core_parts core order)
