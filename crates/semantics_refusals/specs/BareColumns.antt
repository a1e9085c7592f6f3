-- Columns of FROM where only groups are left. (SELECT, "Generation of the set of result rows"; Aggregate Functions)
use Rattle.std.specs.Prelude.{◌≡◌, ℕ, suc, ◌+◌, Contains, List, [], ◌∷◌, ◌++◌, map, Option, Ok}
use Rattle.expr.specs.Term.{Term}
use Rattle.sql_reader_syntax.specs.ExprTree.{ArmTrees, BehindTree, CoreTree, DefinitionTrees, ExprTree, MaybeExpr, OverTree, ResultTree, ResultTrees, TermTrees, WindowTree}
use Rattle.sql_reader_syntax.specs.StatementTree.{ItemTree, StatementTree}
use Rattle.sql_reader_syntax.specs.Tree.{Name}
use Rattle.semantics_names.specs.Expression.{Answers, term_of}
use Rattle.semantics_names.specs.Laws.{IsOnlyColumn}
use Rattle.semantics_names.specs.Outcome.{each}
use Rattle.semantics_names.specs.Parts.{inner_trees, parts_behind_groups}
use Rattle.semantics_names.specs.Places.{columns_say}
use Rattle.semantics_names.specs.Scope.{Scope, Shown}
use Rattle.semantics_names.specs.Statement.{Inner, Named, ResultColumn, With, answers_of, from_tree, inner_of, max_levels, queried, starred, starred_of, with_items}
use Rattle.semantics_names.specs.Typed.{Table, Types, known_tables}
use Rattle.semantics_refusals.specs.Columns.{ListedTable, Shows, names_of_results, results_in}
use Rattle.semantics_refusals.specs.UnknownColumns.{InSelect, IsNoResult}
use Rattle.semantics_refusals.specs.WrongPlaces.{IsAggregate, expressions, groups_in}
use Rattle.semantics_refusals.specs.Written.{HasQueryAt, terms_in}

-- ---- what is written

-- a SELECT has groups: GROUP BY, or an aggregate in a result column, HAVING, WINDOW or ORDER BY
pub data HasGroups (core : CoreTree) (by : TermTrees) : Type 0 where
  key : (e : ExprTree) → Contains (groups_in core) e → HasGroups core by
  aggregate : (part : ExprTree) → Contains (parts_behind_groups core by) part → IsAggregate part → HasGroups core by

abbrev pub maybe_in : MaybeExpr → List ExprTree
maybe_in MaybeExpr.Absent = []
maybe_in (MaybeExpr.Present e) = e ∷ []

abbrev pub arms_in : ArmTrees → List ExprTree
arms_in ArmTrees.No_arm = []
arms_in (ArmTrees.Arm when then arms) = when ∷ then ∷ arms_in arms

-- PARTITION BY and ORDER BY
abbrev pub window_in : WindowTree → List ExprTree
window_in (WindowTree.Window partition order frame) = expressions partition ++ terms_in order

abbrev pub over_in : OverTree → List ExprTree
over_in OverTree.No_over = []
over_in (OverTree.OverName name) = []
over_in (OverTree.Over w) = window_in w

-- FILTER and OVER
abbrev pub after_in : BehindTree → List ExprTree
after_in (BehindTree.Behind filter over) = maybe_in filter ++ over_in over

-- the expressions that stand directly in one
abbrev pub directly_in : ExprTree → List ExprTree
directly_in (ExprTree.Prefix op x) = x ∷ []
directly_in (ExprTree.Binary op x y) = x ∷ y ∷ []
directly_in (ExprTree.Postfix op x) = x ∷ []
directly_in (ExprTree.Between not x low high) = x ∷ low ∷ high ∷ []
directly_in (ExprTree.In not x items) = x ∷ expressions items
directly_in (ExprTree.InQuery not x query) = x ∷ []
directly_in (ExprTree.CountRows after) = after_in after
directly_in (ExprTree.Call function items after) = expressions items ++ after_in after
directly_in (ExprTree.Case operand arms otherwise) = maybe_in operand ++ arms_in arms ++ maybe_in otherwise
directly_in _ = []

abbrev pub values_in : ResultTrees → List ExprTree
values_in ResultTrees.No_result = []
values_in (ResultTrees.Result (ResultTree.Value e name) results) = e ∷ values_in results
values_in (ResultTrees.Result _ results) = values_in results

abbrev pub definitions_in : DefinitionTrees → List ExprTree
definitions_in DefinitionTrees.No_definition = []
definitions_in (DefinitionTrees.Definition name w windows) = window_in w ++ definitions_in windows

-- the expressions of result columns, HAVING and WINDOW
abbrev pub computed_in : CoreTree → List ExprTree
computed_in (CoreTree.Select distinct results from condition by having windows) =
    values_in results ++ maybe_in having ++ definitions_in windows

-- an expression is computed after grouping; one of ORDER BY that is the name of a result column alone stands for that column
pub data IsAfterGroups (scope : Scope) (core : CoreTree) (by : TermTrees) (e : ExprTree) : Type 0 where
  computed : Contains (computed_in core) e → IsAfterGroups scope core by e
  sorted : Contains (terms_in by) e → IsNoResult (names_of_results scope (results_in core)) e → IsAfterGroups scope core by e

-- `*` or `t.*` stands for this column
pub data IsStarred (scope : Scope) (r : ResultColumn) : ResultTrees → Type 0 where
  all : {results : ResultTrees} → Contains (starred scope) r → IsStarred scope r (ResultTrees.Result ResultTree.All results)
  of : {table : Name} {results : ResultTrees} → Contains (starred_of table 0 scope) r
      → IsStarred scope r (ResultTrees.Result (ResultTree.AllOf table) results)
  later : {other : ResultTree} {results : ResultTrees} → IsStarred scope r results → IsStarred scope r (ResultTrees.Result other results)

-- ---- one SELECT, where FROM shows these columns, and the queries in its expressions have these answers

module _ (answers : Answers) (scope : Scope) (core : CoreTree) where
  -- a term over the columns of FROM is an expression of GROUP BY
  pub record IsGroupTerm (t : Term) : Type 0 where
    pub key : ExprTree
    pub written : Contains (groups_in core) key
    pub is : term_of answers (columns_say scope) key ≡ Ok t

  -- An expression is one of GROUP BY, as it is written or otherwise, as where a column has the name of its table before it: over the
  -- columns of FROM both are one term.
  pub record IsGroupExpression (e : ExprTree) : Type 0 where
    pub t : Term
    pub is : term_of answers (columns_say scope) e ≡ Ok t
    pub group : IsGroupTerm t

  -- a part stands in an expression outside every aggregate, and outside every expression of GROUP BY
  pub data StandsOutside (part : ExprTree) : ExprTree → Type 0 where
    itself : ¬ IsGroupExpression part → StandsOutside part part
    inside : {e : ExprTree} (x : ExprTree) → ¬ IsGroupExpression e → ¬ IsAggregate e → Contains (directly_in e) x → StandsOutside part x
        → StandsOutside part e

  -- in an expression a column of FROM stands so
  pub record IsBareIn (e : ExprTree) : Type 0 where
    pub table : Option Name
    pub name : Name
    pub at : ℕ
    pub shown : Shown
    pub column : IsOnlyColumn scope table name at shown
    pub outside : StandsOutside (ExprTree.Column table name) e

  -- it does in an expression that is computed after grouping, or `*` or `t.*` stands for a column that is none of GROUP BY
  pub data HasBare (by : TermTrees) : Type 0 where
    column : (e : ExprTree) → IsAfterGroups scope core by e → IsBareIn e → HasBare by
    star : (r : ResultColumn) → IsStarred scope r (results_in core) → ¬ IsGroupTerm r.term → HasBare by

-- ---- the statement

-- The queries in the expressions of a SELECT, with so many queries around it: where two compute the same, their answers are the same.
pub record Operands (tables : List Table) (levels : ℕ) (items : List ItemTree) (core : CoreTree) (by : TermTrees) : Type 0 where
  pub deep : ℕ
  pub left : suc (levels + deep) ≡ max_levels
  pub w : With
  pub mentioned : with_items (record { known = known_tables tables; beside = [] }) items ≡ Ok w
  pub inners : List Inner
  pub are : each (inner_of w.known (λ query. queried deep w.known query TermTrees.No_term)) (inner_trees core by) ≡ Ok inners

abbrev pub operand_answers : {tables : List Table} {levels : ℕ} {items : List ItemTree} {core : CoreTree} {by : TermTrees}
    → Operands tables levels items core by → Answers
operand_answers o = answers_of o.w.known (λ query. queried o.deep o.w.known query TermTrees.No_term) (map (λ i. i.query) o.inners)

-- a SELECT has groups, and a column is bare in it
pub record GroupsBarely (tables : List Table) (levels : ℕ) (items : List ItemTree) (listed : List ListedTable) (core : CoreTree) (by : TermTrees) : Type 0 where
  pub scope : Scope
  pub shows : Shows listed (from_tree core) scope
  pub operands : Operands tables levels items core by
  pub groups : HasGroups core by
  pub bare : HasBare (operand_answers operands) scope core by

-- somewhere in a statement a SELECT is such
abbrev pub HasBareColumn : List Table → StatementTree → Type 0
HasBareColumn tables tree = HasQueryAt tree (λ levels items query order. InSelect tables (GroupsBarely tables levels items) items query order)

-- such a statement is no query
abbrev pub BareColumnIsRefused : Type 0
BareColumnIsRefused = (tables : List Table) (tree : StatementTree) (n : Named) → HasBareColumn tables tree → ¬ Types tables tree n
