-- Too many result columns, queries in queries too deep, and too many sources. (SELECT; WITH clause; Limits In SQLite)
use Rattle.std.specs.Prelude.{◌<◌, ℕ, suc, ◌+◌, Contains, List, [], ◌∷◌, ◌++◌, length, map, Option}
use Rattle.sql_reader_syntax.specs.ExprTree.{CoreTree, ExprTree, FromTree, OnTree, QueryTree, SourceTree, TermTrees}
use Rattle.sql_reader_syntax.specs.StatementTree.{ItemTree, StatementTree}
use Rattle.sql_reader_syntax.specs.Tree.{Name}
use Rattle.sql_reader_syntax.specs.declared.query.CompoundOperator.{CompoundOperator}
use Rattle.sql_reader_syntax.specs.declared.query.Join.{Join}
use Rattle.semantics_names.specs.Laws.{IsSameInAnyCase}
use Rattle.semantics_names.specs.Parts.{core_parts}
use Rattle.semantics_names.specs.Scope.{Scope}
use Rattle.semantics_names.specs.Statement.{Named, from_tree}
use Rattle.semantics_names.specs.Typed.{Table, Types}
use Rattle.semantics_refusals.specs.Columns.{ListedTable, Shows, names_of_results, results_in}
use Rattle.semantics_refusals.specs.UnknownColumns.{InSelect}
use Rattle.semantics_refusals.specs.UnknownSources.{table_names}
use Rattle.semantics_refusals.specs.Written.{HasQueryWith, HasSelectWith, IsOperand, IsQueryOf, StandsIn, sources_in}

-- ---- columns and levels

-- a SELECT has more than 100 result columns, where `*` counts as the columns that it stands for
pub record IsWide (listed : List ListedTable) (core : CoreTree) (by : TermTrees) : Type 0 where
  pub scope : Scope
  pub shows : Shows listed (from_tree core) scope
  pub wide : 100 < length (names_of_results scope (results_in core))

-- at least this number of queries are in one another, inside a query
pub data IsDeep : ℕ → QueryTree → TermTrees → Type 0 where
  any : {query : QueryTree} {order : TermTrees} → IsDeep 0 query order
  inside : {levels : ℕ} {query : QueryTree} {order : TermTrees} (inner : QueryTree) → StandsIn query order inner
      → IsDeep levels inner TermTrees.No_term → IsDeep (suc levels) query order

-- ---- numbers of sources

-- a table or an item of WITH, and as how many sources a mention of it counts
pub record Counted : Type 0 where
  pub name : Name
  pub count : ℕ

-- the number of the first of this name, so that an item of WITH hides a table
pub data IsCounted (name : Name) : List Counted → ℕ → Type 0 where
  here : {c : Counted} {others : List Counted} → IsSameInAnyCase c.name name → IsCounted name (c ∷ others) c.count
  later : {c : Counted} {others : List Counted} {n : ℕ} → ¬ IsSameInAnyCase c.name name → IsCounted name others n → IsCounted name (c ∷ others) n

-- where mentions of these count so
mutual
  -- a query counts as one, and its sources with it
  pub data SourceCounts (counted : List Counted) : SourceTree → ℕ → Type 0 where
    named : {name : Name} {alias : Option Name} {n : ℕ} → IsCounted name counted n → SourceCounts counted (SourceTree.Named name alias) n
    derived : {query : QueryTree} {alias : Option Name} {n : ℕ} → QueryCounts counted query TermTrees.No_term n
        → SourceCounts counted (SourceTree.Derived query alias) (suc n)

  pub data FromCounts (counted : List Counted) : FromTree → ℕ → Type 0 where
    nothing : FromCounts counted FromTree.No_source 0
    first : {source : SourceTree} {n : ℕ} → SourceCounts counted source n → FromCounts counted (FromTree.First source) n
    joined : {from : FromTree} {join : Join} {source : SourceTree} {on : OnTree} {m n : ℕ} → FromCounts counted from m
        → SourceCounts counted source n → FromCounts counted (FromTree.Joined from join source on) (m + n)

  -- the sources of the queries in expressions
  pub data PartsCount (counted : List Counted) : List ExprTree → ℕ → Type 0 where
    none : PartsCount counted [] 0
    plain : {part : ExprTree} {parts : List ExprTree} {n : ℕ} → ((query : QueryTree) → ¬ IsOperand part query) → PartsCount counted parts n
        → PartsCount counted (part ∷ parts) n
    operand : {part : ExprTree} {parts : List ExprTree} {query : QueryTree} {m n : ℕ} → IsOperand part query
        → QueryCounts counted query TermTrees.No_term m
        → PartsCount counted parts n → PartsCount counted (part ∷ parts) (m + n)

  pub data QueryCounts (counted : List Counted) : QueryTree → TermTrees → ℕ → Type 0 where
    alone : {core : CoreTree} {order : TermTrees} {m n : ℕ} → FromCounts counted (from_tree core) m → PartsCount counted (core_parts core order) n
        → QueryCounts counted (QueryTree.Core core) order (m + n)
    compound : {left : QueryTree} {operator : CompoundOperator} {core : CoreTree} {order : TermTrees} {k m n : ℕ}
        → QueryCounts counted left TermTrees.No_term k → FromCounts counted (from_tree core) m
        → PartsCount counted (core_parts core TermTrees.No_term) n
        → QueryCounts counted (QueryTree.Compound left operator core) order (k + (m + n))

-- a table counts as one
abbrev pub tables_counted : List Table → List Counted
tables_counted tables = map (λ name. record { name = name; count = 1 }) (table_names tables)

-- what may be mentioned after these items of WITH: they, the last one first, each as one and its sources with it, and the tables
pub data AreCounted (tables : List Table) : List ItemTree → List Counted → Type 0 where
  no_item : AreCounted tables [] (tables_counted tables)
  item : {before : List ItemTree} {counted : List Counted} (i : ItemTree) (n : ℕ) → AreCounted tables before counted
      → QueryCounts counted i.query TermTrees.No_term n → AreCounted tables (before ++ i ∷ []) (record { name = i.name; count = suc n } ∷ counted)

-- a source of the FROM of a SELECT is an item of WITH whose query has more than 64 sources
pub record MentionsLarge (tables : List Table) (items : List ItemTree) (core : CoreTree) (by : TermTrees) : Type 0 where
  pub name : Name
  pub alias : Option Name
  pub written : Contains (sources_in (from_tree core)) (SourceTree.Named name alias)
  pub counted : List Counted
  pub are : AreCounted tables items counted
  pub sources : ℕ
  pub mentioned : IsCounted name counted (suc sources)
  pub large : 64 < sources

-- ---- the statement

-- Somewhere in a statement a SELECT has more than 100 result columns; in its query, or in that of an item of WITH, 100 more are in
-- one another, so that there are 101 levels; the query has more than 64 sources, or an item is mentioned that has.
pub data IsBeyondLimit (tables : List Table) (tree : StatementTree) : Type 0 where
  columns : HasQueryWith tree (InSelect tables IsWide) → IsBeyondLimit tables tree
  levels : (items : List ItemTree) (query : QueryTree) (order : TermTrees) → IsQueryOf tree items query order → IsDeep 100 query order
      → IsBeyondLimit tables tree
  sources : (counted : List Counted) (n : ℕ) → AreCounted tables tree.items counted → QueryCounts counted tree.query tree.order n → 64 < n
      → IsBeyondLimit tables tree
  mention : HasSelectWith tree (MentionsLarge tables) → IsBeyondLimit tables tree

-- such a statement is no query
abbrev pub BeyondLimitIsRefused : Type 0
BeyondLimitIsRefused = (tables : List Table) (tree : StatementTree) (n : Named) → IsBeyondLimit tables tree → ¬ Types tables tree n
