-- What is written in a statement: its SELECTs, however deep they stand, and the sources of their FROM. (SELECT; WITH clause)
use Rattle.std.specs.Prelude.{◌≡◌, ℕ, suc, Bool, Contains, List, [], ◌∷◌, ◌++◌, map, Option}
use Rattle.sql_reader_syntax.specs.ExprTree.{CoreTree, DefinitionTrees, ExprTree, ExprTrees, FromTree, MaybeExpr, OnTree, QueryTree, ResultTree, ResultTrees, SourceTree, TermTrees}
use Rattle.sql_reader_syntax.specs.StatementTree.{ItemTree, StatementTree}
use Rattle.sql_reader_syntax.specs.Tree.{Name}
use Rattle.sql_reader_syntax.specs.declared.query.CompoundOperator.{CompoundOperator}
use Rattle.sql_reader_syntax.specs.declared.query.Join.{Join}
use Rattle.semantics_names.specs.Parts.{all_parts, core_parts, definitions_parts, maybe_parts, results_parts, terms_parts}
use Rattle.semantics_names.specs.Statement.{alias_or, from_tree}

-- the sources of a FROM, in their order
abbrev pub sources_in : FromTree → List SourceTree
sources_in FromTree.No_source = []
sources_in (FromTree.First source) = source ∷ []
sources_in (FromTree.Joined from join source on) = sources_in from ++ source ∷ []

-- what a source is called: its alias, or else the name that is written; a query without an alias isn't called anything
abbrev pub called_so : SourceTree → Option Name
called_so (SourceTree.Named name alias) = alias_or name alias
called_so (SourceTree.Derived query alias) = alias

abbrev pub names_of_sources : FromTree → List (Option Name)
names_of_sources from = map called_so (sources_in from)

-- how a FROM begins
pub data BeginsFrom : FromTree → FromTree → Type 0 where
  whole : {from : FromTree} → BeginsFrom from from
  more : {begin from : FromTree} {join : Join} {source : SourceTree} {on : OnTree} → BeginsFrom begin from
      → BeginsFrom begin (FromTree.Joined from join source on)

-- the sources whose columns are results, as `t.*`
abbrev pub stars_in : ResultTrees → List Name
stars_in ResultTrees.No_result = []
stars_in (ResultTrees.Result (ResultTree.AllOf table) results) = table ∷ stars_in results
stars_in (ResultTrees.Result _ results) = stars_in results

-- the parts of the expressions of a SELECT, but those of ON and of ORDER BY
abbrev pub spoken_in : CoreTree → List ExprTree
spoken_in (CoreTree.Select distinct results from condition by having windows) =
    results_parts results ++ maybe_parts condition ++ all_parts by ++ maybe_parts having ++ definitions_parts windows

-- HAVING stands without GROUP BY, as no text of a SELECT has it
abbrev pub IsLooseHaving : CoreTree → Type 0
IsLooseHaving (CoreTree.Select distinct results from condition ExprTrees.No_more (MaybeExpr.Present having) windows) = Unit {0}
IsLooseHaving core = ⊥

-- the windows that a SELECT defines
abbrev pub windows_in : CoreTree → DefinitionTrees
windows_in (CoreTree.Select distinct results from condition by having windows) = windows

-- the expressions of ORDER BY
abbrev pub terms_in : TermTrees → List ExprTree
terms_in TermTrees.No_term = []
terms_in (TermTrees.Term e direction order) = e ∷ terms_in order

-- a query is a source
pub data IsDerived : SourceTree → QueryTree → Type 0 where
  query : {query : QueryTree} {alias : Option Name} → IsDerived (SourceTree.Derived query alias) query

-- a query is the operand of IN, or of EXISTS
pub data IsOperand : ExprTree → QueryTree → Type 0 where
  members : {not : Bool} {x : ExprTree} {query : QueryTree} → IsOperand (ExprTree.InQuery not x query) query
  tested : {query : QueryTree} → IsOperand (ExprTree.Exists query) query

-- One of the SELECTs of a query, with the ORDER BY that speaks of its rows: the query itself, or one of those that a compound
-- joins, whose ORDER BY speaks of the result columns alone.
pub data IsSelect : QueryTree → TermTrees → CoreTree → TermTrees → Type 0 where
  alone : {core : CoreTree} {order : TermTrees} → IsSelect (QueryTree.Core core) order core order
  last : {left : QueryTree} {operator : CompoundOperator} {core : CoreTree} {order : TermTrees}
      → IsSelect (QueryTree.Compound left operator core) order core TermTrees.No_term
  before : {left : QueryTree} {operator : CompoundOperator} {core other : CoreTree} {order by : TermTrees}
      → IsSelect left TermTrees.No_term core by → IsSelect (QueryTree.Compound left operator other) order core by

-- a query stands in another: in FROM, in an expression of one of its SELECTs, or in its ORDER BY
pub data StandsIn : QueryTree → TermTrees → QueryTree → Type 0 where
  derived : {query : QueryTree} {order : TermTrees} (core : CoreTree) (by : TermTrees) (inner : QueryTree) (source : SourceTree)
      → IsSelect query order core by → Contains (sources_in (from_tree core)) source → IsDerived source inner → StandsIn query order inner
  operand : {query : QueryTree} {order : TermTrees} (core : CoreTree) (by : TermTrees) (inner : QueryTree) (part : ExprTree)
      → IsSelect query order core by → Contains (core_parts core by) part → IsOperand part inner → StandsIn query order inner
  sorted : {query : QueryTree} {order : TermTrees} (inner : QueryTree) (part : ExprTree)
      → Contains (terms_parts order) part → IsOperand part inner → StandsIn query order inner

-- a query, or one that stands in it at any depth
pub data HasQuery : QueryTree → TermTrees → QueryTree → TermTrees → Type 0 where
  own : {query : QueryTree} {order : TermTrees} → HasQuery query order query order
  inside : {query : QueryTree} {order : TermTrees} {deep : QueryTree} {by : TermTrees} (inner : QueryTree)
      → StandsIn query order inner → HasQuery inner TermTrees.No_term deep by → HasQuery query order deep by

-- how many queries stand around it
abbrev pub levels_around : {query : QueryTree} {order : TermTrees} {deep : QueryTree} {by : TermTrees} → HasQuery query order deep by → ℕ
levels_around HasQuery.own = 0
levels_around (HasQuery.inside inner stands has) = suc (levels_around has)

-- a query of a statement, and the items of WITH that stand before it, which alone it may mention
pub data IsQueryOf (tree : StatementTree) : List ItemTree → QueryTree → TermTrees → Type 0 where
  item : (before : List ItemTree) (i : ItemTree) (after : List ItemTree) → tree.items ≡ before ++ i ∷ after
      → IsQueryOf tree before i.query TermTrees.No_term
  whole : IsQueryOf tree tree.items tree.query tree.order

-- A query of a statement, wherever it stands, of which this holds: of the items that it may mention, of it and of its ORDER BY
pub record HasQueryWith (tree : StatementTree) (Is : List ItemTree → QueryTree → TermTrees → Type 0) : Type 0 where
  pub items : List ItemTree
  pub outer : QueryTree
  pub outer_order : TermTrees
  pub of : IsQueryOf tree items outer outer_order
  pub query : QueryTree
  pub order : TermTrees
  pub has : HasQuery outer outer_order query order
  pub is : Is items query order

-- the same, where it holds also of how many queries stand around it
pub record HasQueryAt (tree : StatementTree) (Is : ℕ → List ItemTree → QueryTree → TermTrees → Type 0) : Type 0 where
  pub items : List ItemTree
  pub outer : QueryTree
  pub outer_order : TermTrees
  pub of : IsQueryOf tree items outer outer_order
  pub query : QueryTree
  pub order : TermTrees
  pub has : HasQuery outer outer_order query order
  pub is : Is (levels_around has) items query order

-- one of the SELECTs of a query of which this holds
pub record HasSelect (Is : List ItemTree → CoreTree → TermTrees → Type 0) (items : List ItemTree) (query : QueryTree) (order : TermTrees) : Type 0 where
  pub core : CoreTree
  pub by : TermTrees
  pub select : IsSelect query order core by
  pub is : Is items core by

-- a SELECT of a statement, wherever it stands, of which this holds
abbrev pub HasSelectWith : StatementTree → (List ItemTree → CoreTree → TermTrees → Type 0) → Type 0
HasSelectWith tree Is = HasQueryWith tree (HasSelect Is)

-- how the SELECTs of a compound begin
pub data BeginsQuery : QueryTree → QueryTree → Type 0 where
  whole : {query : QueryTree} → BeginsQuery query query
  more : {begin query : QueryTree} {operator : CompoundOperator} {core : CoreTree} → BeginsQuery begin query
      → BeginsQuery begin (QueryTree.Compound query operator core)
