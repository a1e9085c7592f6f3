-- The columns that a FROM shows, and the names of a query's columns. (SELECT, "Determination of input data" and "Generation of the
-- set of result rows"; WITH clause)
use Rattle.std.specs.Prelude.{◌≡◌, ℕ, List, [], ◌∷◌, ◌++◌, codes, length, map, Option, None, Ok}
use Rattle.sql_reader_syntax.specs.ExprTree.{CoreTree, ExprTree, FromTree, OnTree, QueryTree, ResultTree, ResultTrees, SourceTree}
use Rattle.sql_reader_syntax.specs.StatementTree.{ItemTree}
use Rattle.sql_reader_syntax.specs.Tree.{Name}
use Rattle.sql_reader_syntax.specs.declared.query.CompoundOperator.{CompoundOperator}
use Rattle.sql_reader_syntax.specs.declared.query.Join.{Join}
use Rattle.semantics_names.specs.Laws.{IsSameInAnyCase}
use Rattle.semantics_names.specs.Scope.{Scope, places_of}
use Rattle.semantics_names.specs.Sources.{hidden, merged, shown_from}
use Rattle.semantics_names.specs.Statement.{alias_or, from_tree, result_name, starred, starred_of}
use Rattle.semantics_names.specs.Typed.{Table, schema_columns}

-- ---- names of result columns

-- an expression has its alias, or else its column's name, or its text; `*` has the names of the columns that it stands for
abbrev pub names_of_result : Scope → ResultTree → List Name
names_of_result scope ResultTree.All = map (λ r. r.name) (starred scope)
names_of_result scope (ResultTree.AllOf table) = map (λ r. r.name) (starred_of table 0 scope)
names_of_result scope (ResultTree.Value e name) = result_name scope e name ∷ []

abbrev pub names_of_results : Scope → ResultTrees → List Name
names_of_results scope ResultTrees.No_result = []
names_of_results scope (ResultTrees.Result r rs) = names_of_result scope r ++ names_of_results scope rs

abbrev pub results_in : CoreTree → ResultTrees
results_in (CoreTree.Select distinct results from condition by having windows) = results

-- ---- sources

-- a table or an item of WITH, and the names of its columns
pub record ListedTable : Type 0 where
  pub name : Name
  pub columns : List Name

-- the columns of the first of this name, so that an item of WITH hides a table
pub data IsListed (name : Name) : List ListedTable → List Name → Type 0 where
  here : {l : ListedTable} {others : List ListedTable} → IsSameInAnyCase l.name name → IsListed name (l ∷ others) l.columns
  later : {l : ListedTable} {others : List ListedTable} {columns : List Name} → ¬ IsSameInAnyCase l.name name → IsListed name others columns
      → IsListed name (l ∷ others) columns

-- USING takes the columns of both sides of each of its names as one: behind the left side's name stands the right side's column too,
-- and the right side's name is gone. What the right side's source has is looked at as it was.
pub data Merges (theirs : Scope) : List Name → Scope → Scope → Scope → Scope → Type 0 where
  done : {left right : Scope} → Merges theirs [] left right left right
  both : {name : Name} {names : List Name} {left right more others : Scope} {places : List ℕ} → places_of theirs None name ≡ Ok places
      → Merges theirs names (merged name places left) (hidden name right) more others → Merges theirs (name ∷ names) left right more others

-- the columns of both sides of a join
pub data JoinsScopes : OnTree → Scope → Scope → Scope → Type 0 where
  always : {left right : Scope} → JoinsScopes OnTree.Always left right (left ++ right)
  on : {e : ExprTree} {left right : Scope} → JoinsScopes (OnTree.On e) left right (left ++ right)
  by_names : {names : List Name} {left right more others : Scope} → Merges right names left right more others
      → JoinsScopes (OnTree.Using names) left right (more ++ others)

-- where FROM may mention these
mutual
  -- a source is called so, if it is called anything, and has columns of these names
  pub data Offers (listed : List ListedTable) : SourceTree → Option Name → List Name → Type 0 where
    named : {name : Name} {alias : Option Name} {columns : List Name} → IsListed name listed columns
        → Offers listed (SourceTree.Named name alias) (alias_or name alias) columns
    derived : {query : QueryTree} {alias : Option Name} {columns : List Name} → HasNames listed query columns
        → Offers listed (SourceTree.Derived query alias) alias columns

  -- a FROM shows these columns
  pub data Shows (listed : List ListedTable) : FromTree → Scope → Type 0 where
    nothing : Shows listed FromTree.No_source []
    first : {source : SourceTree} {called : Option Name} {columns : List Name} → Offers listed source called columns
        → Shows listed (FromTree.First source) (shown_from called 0 columns)
    joined : {from : FromTree} {join : Join} {source : SourceTree} {on : OnTree} {left scope : Scope} {called : Option Name} {columns : List Name}
        → Shows listed from left → Offers listed source called columns → JoinsScopes on left (shown_from called (length left) columns) scope
        → Shows listed (FromTree.Joined from join source on) scope

  -- the columns of a query have these names; those of a compound have the names of its first SELECT
  pub data HasNames (listed : List ListedTable) : QueryTree → List Name → Type 0 where
    alone : {core : CoreTree} {scope : Scope} → Shows listed (from_tree core) scope
        → HasNames listed (QueryTree.Core core) (names_of_results scope (results_in core))
    compound : {left : QueryTree} {operator : CompoundOperator} {core : CoreTree} {names : List Name} → HasNames listed left names
        → HasNames listed (QueryTree.Compound left operator core) names

-- ---- the statement

abbrev pub table_listed : Table → ListedTable
table_listed t = record { name = t.name; columns = map (λ c. c.name) t.columns }

abbrev pub schema_listed : Name → ListedTable
schema_listed name = record { name = name; columns = schema_columns }

-- the tables, and the two names of the table of the schema's rows
abbrev pub tables_listed : List Table → List ListedTable
tables_listed tables = map table_listed tables ++ schema_listed (codes "sqlite_schema") ∷ schema_listed (codes "sqlite_master") ∷ []

-- the names that are written behind an item's, or else those of its query
abbrev pub columns_or : List Name → List Name → List Name
columns_or [] names = names
columns_or (n ∷ ns) names = n ∷ ns

-- what may be mentioned behind these items of WITH: they, the last one first, and the tables
pub data AreListed (tables : List Table) : List ItemTree → List ListedTable → Type 0 where
  no_item : AreListed tables [] (tables_listed tables)
  item : {before : List ItemTree} {listed : List ListedTable} (i : ItemTree) (names : List Name) → AreListed tables before listed
      → HasNames listed i.query names
      → AreListed tables (before ++ i ∷ []) (record { name = i.name; columns = columns_or i.columns names } ∷ listed)
