-- Names of columns that are none, or more than one. (SELECT, "Determination of input data", "Generation of the set of result rows" and
-- "The ORDER BY clause")
use Rattle.std.specs.Prelude.{◌≡◌, ◌⊎◌, ◌<◌, ℕ, All, Contains, List, None, Option, Some, length, slice_get}
use Rattle.sql_reader_syntax.specs.ExprTree.{CoreTree, ExprTree, FromTree, OnTree, QueryTree, SourceTree, TermTrees}
use Rattle.sql_reader_syntax.specs.StatementTree.{ItemTree, StatementTree}
use Rattle.sql_reader_syntax.specs.Tree.{Name}
use Rattle.sql_reader_syntax.specs.declared.query.Join.{Join}
use Rattle.semantics_names.specs.Laws.{IsCalledAt, IsSameInAnyCase}
use Rattle.semantics_names.specs.Parts.{parts}
use Rattle.semantics_names.specs.Scope.{Scope, Shown}
use Rattle.semantics_names.specs.Sources.{shown_from}
use Rattle.semantics_names.specs.Statement.{Named, from_tree}
use Rattle.semantics_names.specs.Typed.{Table, Types}
use Rattle.semantics_refusals.specs.Columns.{AreListed, HasNames, ListedTable, Offers, Shows, names_of_results, results_in}
use Rattle.semantics_refusals.specs.Written.{BeginsFrom, HasQueryWith, HasSelectWith, IsLooseHaving, IsSelect, spoken_in, stars_in, terms_in}

-- no column is called so
abbrev pub IsUnknown : Scope → Option Name → Name → Type 0
IsUnknown scope table name = (at : ℕ) → ¬ IsCalledAt scope table name at

-- two columns are
abbrev pub IsAmbiguous : Scope → Option Name → Name → Type 0
IsAmbiguous scope table name = (first second : ℕ) × (first < second) × IsCalledAt scope table name first × IsCalledAt scope table name second

-- the columns of a source, behind those of the sources before it
abbrev pub columns_behind : Scope → Option Name → List Name → Scope
columns_behind left called columns = shown_from called (length left) columns

-- a result column is called so
abbrev pub IsNamedAt : List Name → Name → ℕ → Type 0
IsNamedAt names name at = (other : Name) × (slice_get names at ≡ Some other) × IsSameInAnyCase other name

-- an expression of ORDER BY isn't the name of a result column alone, which would stand for that column
abbrev pub IsNoResult : List Name → ExprTree → Type 0
IsNoResult names e = (alone : Name) (at : ℕ) → e ≡ ExprTree.Column None alone → ¬ IsNamedAt names alone at

-- A column is named in a SELECT of which this holds, among the columns that stand there: in an expression those of FROM; in ON those of
-- the sources up to its own; and for a name of USING those of the sources before it, and those of its own.
pub data NamesColumn (Is : Scope → Option Name → Name → Type 0) (listed : List ListedTable) (core : CoreTree) (by : TermTrees) : Type 0 where
  in_expression : (scope : Scope) (table : Option Name) (name : Name) → Shows listed (from_tree core) scope
      → Contains (spoken_in core) (ExprTree.Column table name) → Is scope table name → NamesColumn Is listed core by
  in_order : (scope : Scope) (e : ExprTree) (table : Option Name) (name : Name) → Shows listed (from_tree core) scope → Contains (terms_in by) e
      → IsNoResult (names_of_results scope (results_in core)) e → Contains (parts e) (ExprTree.Column table name) → Is scope table name
      → NamesColumn Is listed core by
  in_on : (left : FromTree) (join : Join) (source : SourceTree) (e : ExprTree) (scope : Scope) (table : Option Name) (name : Name)
      → BeginsFrom (FromTree.Joined left join source (OnTree.On e)) (from_tree core) → Shows listed (FromTree.Joined left join source (OnTree.On e)) scope
      → Contains (parts e) (ExprTree.Column table name) → Is scope table name → NamesColumn Is listed core by
  in_using : (left : FromTree) (join : Join) (source : SourceTree) (names : List Name) (scope : Scope) (called : Option Name) (columns : List Name)
      (name : Name) → BeginsFrom (FromTree.Joined left join source (OnTree.Using names)) (from_tree core) → Shows listed left scope
      → Offers listed source called columns → Contains names name → Is scope None name ⊎ Is (columns_behind scope called columns) None name
      → NamesColumn Is listed core by

-- a column is that of a source of this name
abbrev pub IsOf : Name → Shown → Type 0
IsOf table shown = (source : Name) × (shown.source ≡ Some source) × IsSameInAnyCase source table

-- a name of a column is unknown, or `t.*` stands for the columns of no source
pub data NamesUnknownColumn (listed : List ListedTable) (core : CoreTree) (by : TermTrees) : Type 0 where
  mention : NamesColumn IsUnknown listed core by → NamesUnknownColumn listed core by
  star : (scope : Scope) (table : Name) → Shows listed (from_tree core) scope → Contains (stars_in (results_in core)) table
      → All (λ shown. ¬ IsOf table shown) scope → NamesUnknownColumn listed core by

-- a name alone in ORDER BY is that of two result columns
pub record SortsByTwo (listed : List ListedTable) (query : QueryTree) (order : TermTrees) : Type 0 where
  pub names : List Name
  pub are : HasNames listed query names
  pub name : Name
  pub written : Contains (terms_in order) (ExprTree.Column None name)
  pub first : ℕ
  pub second : ℕ
  pub apart : first < second
  pub one : IsNamedAt names name first
  pub other : IsNamedAt names name second

-- in a SELECT of the query it is so, where FROM may mention what stands before it
pub record InSelect (tables : List Table) (Is : List ListedTable → CoreTree → TermTrees → Type 0) (items : List ItemTree) (query : QueryTree) (order : TermTrees)
    : Type 0 where
  pub listed : List ListedTable
  pub are : AreListed tables items listed
  pub core : CoreTree
  pub by : TermTrees
  pub select : IsSelect query order core by
  pub is : Is listed core by

-- Somewhere in a statement, in a SELECT of it, of an item of WITH, or of a query that stands in one of these at any depth, a column is
-- named that none of those that stand there is called, or `t.*` is written of no source.
abbrev pub HasUnknownColumn : List Table → StatementTree → Type 0
HasUnknownColumn tables tree = HasQueryWith tree (InSelect tables NamesUnknownColumn)

-- a name is that of two columns, or in ORDER BY of two result columns
pub data IsTwofold (tables : List Table) (items : List ItemTree) (query : QueryTree) (order : TermTrees) : Type 0 where
  column : InSelect tables (NamesColumn IsAmbiguous) items query order → IsTwofold tables items query order
  result : (listed : List ListedTable) → AreListed tables items listed → SortsByTwo listed query order → IsTwofold tables items query order

-- somewhere in a statement a name is
abbrev pub HasAmbiguousColumn : List Table → StatementTree → Type 0
HasAmbiguousColumn tables tree = HasQueryWith tree (IsTwofold tables)

-- HAVING stands somewhere without GROUP BY: no tokens spell such a statement (Spelt.antt), and it isn't looked at where there is no
-- aggregate either
abbrev pub HasLooseHaving : StatementTree → Type 0
HasLooseHaving tree = HasSelectWith tree (λ items core by. IsLooseHaving core)

-- a statement with an unknown column, or with an ambiguous name, is no query
abbrev pub UnknownColumnIsRefused : Type 0
UnknownColumnIsRefused = (tables : List Table) (tree : StatementTree) (n : Named) → HasUnknownColumn tables tree → ¬ HasLooseHaving tree → ¬ Types tables tree n

abbrev pub AmbiguousColumnIsRefused : Type 0
AmbiguousColumnIsRefused =
    (tables : List Table) (tree : StatementTree) (n : Named) → HasAmbiguousColumn tables tree → ¬ HasLooseHaving tree → ¬ Types tables tree n
