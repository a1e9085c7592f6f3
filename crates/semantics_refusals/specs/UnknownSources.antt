-- Sources that are none. (SELECT, "Determination of input data"; WITH clause; The Schema Table)
use Rattle.std.specs.Prelude.{All, Contains, List, [], ◌∷◌, ◌++◌, codes, map, Option}
use Rattle.sql_reader_syntax.specs.ExprTree.{CoreTree, SourceTree, TermTrees}
use Rattle.sql_reader_syntax.specs.StatementTree.{ItemTree, StatementTree}
use Rattle.sql_reader_syntax.specs.Tree.{Name}
use Rattle.semantics_names.specs.Laws.{IsSameInAnyCase}
use Rattle.semantics_names.specs.Statement.{Named, from_tree}
use Rattle.semantics_names.specs.Typed.{Table, Types}
use Rattle.semantics_refusals.specs.Written.{HasSelectWith, sources_in}

-- the tables of the catalog, and the two names of the table of the schema's rows
abbrev pub table_names : List Table → List Name
table_names tables = map (λ t. t.name) tables ++ codes "sqlite_schema" ∷ codes "sqlite_master" ∷ []

-- the name is neither one of these items of WITH nor a table
pub record IsNoSource (tables : List Table) (items : List ItemTree) (name : Name) : Type 0 where
  pub no_item : All (λ i. ¬ IsSameInAnyCase i.name name) items
  pub no_table : All (λ other. ¬ IsSameInAnyCase other name) (table_names tables)

-- a source of the FROM of a SELECT is written by a name that is none
pub record NamesNoSource (tables : List Table) (items : List ItemTree) (core : CoreTree) (by : TermTrees) : Type 0 where
  pub name : Name
  pub alias : Option Name
  pub written : Contains (sources_in (from_tree core)) (SourceTree.Named name alias)
  pub unknown : IsNoSource tables items name

-- Somewhere in a statement, in FROM of a SELECT of it, of an item of WITH, or of a query that stands in one of these at any depth,
-- a source is written by a name that is no table, and no item of WITH before that place.
abbrev pub HasUnknownSource : List Table → StatementTree → Type 0
HasUnknownSource tables tree = HasSelectWith tree (NamesNoSource tables)

-- a statement with such a source is no query
abbrev pub UnknownSourceIsRefused : Type 0
UnknownSourceIsRefused = (tables : List Table) (tree : StatementTree) (n : Named) → HasUnknownSource tables tree → ¬ Types tables tree n
