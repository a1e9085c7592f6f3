-- Numbers of columns that differ where they have to be the same. (SELECT, "Compound Select Statements"; WITH clause; SQL Language
-- Expressions, "The IN and NOT IN Operators")
use Rattle.std.specs.Prelude.{◌≡◌, ◌≢◌, ◌∷◌, ◌++◌, Bool, Contains, List, [], length}
use Rattle.sql_reader_syntax.specs.ExprTree.{CoreTree, ExprTree, QueryTree, TermTrees}
use Rattle.sql_reader_syntax.specs.StatementTree.{ItemTree, StatementTree}
use Rattle.sql_reader_syntax.specs.Tree.{Name}
use Rattle.sql_reader_syntax.specs.declared.query.CompoundOperator.{CompoundOperator}
use Rattle.semantics_names.specs.Parts.{core_parts}
use Rattle.semantics_names.specs.Statement.{Named}
use Rattle.semantics_names.specs.Typed.{Table, Types}
use Rattle.semantics_refusals.specs.Columns.{AreListed, HasNames, ListedTable}
use Rattle.semantics_refusals.specs.UnknownColumns.{InSelect}
use Rattle.semantics_refusals.specs.Written.{BeginsQuery, HasQueryWith}

-- an expression of a SELECT has an IN with a query that hasn't one column
pub record HasWideMembers (listed : List ListedTable) (core : CoreTree) (by : TermTrees) : Type 0 where
  pub not : Bool
  pub x : ExprTree
  pub query : QueryTree
  pub written : Contains (core_parts core by) (ExprTree.InQuery not x query)
  pub names : List Name
  pub are : HasNames listed query names
  pub wide : length names ≢ 1

-- it is so in a query, or a SELECT that is joined to those before it hasn't as many columns as they
pub data IsUneven (tables : List Table) (items : List ItemTree) (query : QueryTree) (order : TermTrees) : Type 0 where
  members : InSelect tables HasWideMembers items query order → IsUneven tables items query order
  compound : (listed : List ListedTable) (left : QueryTree) (operator : CompoundOperator) (core : CoreTree) (names others : List Name)
      → AreListed tables items listed → BeginsQuery (QueryTree.Compound left operator core) query → HasNames listed left names
      → HasNames listed (QueryTree.Core core) others → length names ≢ length others → IsUneven tables items query order

-- Somewhere in a statement it is so, or the names behind an item of WITH aren't as many as the columns of its query.
pub data HasUnevenColumns (tables : List Table) (tree : StatementTree) : Type 0 where
  query : HasQueryWith tree (IsUneven tables) → HasUnevenColumns tables tree
  item : (before : List ItemTree) (i : ItemTree) (after : List ItemTree) (listed : List ListedTable) (names : List Name)
      → tree.items ≡ before ++ i ∷ after → AreListed tables before listed → HasNames listed i.query names → i.columns ≢ []
      → length i.columns ≢ length names → HasUnevenColumns tables tree

-- such a statement is no query
abbrev pub UnevenIsRefused : Type 0
UnevenIsRefused = (tables : List Table) (tree : StatementTree) (n : Named) → HasUnevenColumns tables tree → ¬ Types tables tree n
