-- The typed query of a statement, and why there is none. (SELECT; STRICT Tables)
use Rattle.std.specs.Prelude.{◌≡◌, ◌⊎◌, ℕ, suc, List, [], ◌∷◌, ◌++◌, codes, length, map, Result, Ok, Err}
use Rattle.values.specs.declared.fault.Fault.{Fault}
use Rattle.values.specs.declared.fault.Fault.TheVariants.{NoMemory}
use Rattle.values.specs.declared.value.Ty.{Ty}
use Rattle.sql_reader_syntax.specs.StatementTree.{StatementTree}
use Rattle.sql_reader_syntax.specs.Tree.{Name}
use Rattle.semantics.specs.Query.{Source}
use Rattle.semantics_names.specs.Outcome.{also, each, followed}
use Rattle.semantics_names.specs.Sources.{Known}
use Rattle.semantics_names.specs.Statement.{Named, named}
use Rattle.semantics_names.specs.Types.{body_types, query_types}

-- a table of the catalog: its name, and its columns' names and types
pub record Column : Type 0 where
  pub name : Name
  pub ty : Ty

pub record Table : Type 0 where
  pub name : Name
  pub columns : List Column

abbrev pub known_from : ℕ → List Table → List Known
known_from at [] = []
known_from at (t ∷ ts) = record {
  name = t.name;
  source = Ok (Source.table at (length t.columns));
  columns = map (λ c. c.name) t.columns;
} ∷ known_from (suc at) ts

abbrev pub schema_columns : List Name
schema_columns = codes "type" ∷ codes "name" ∷ codes "tbl_name" ∷ codes "rootpage" ∷ codes "sql" ∷ []

abbrev pub known_schema : Name → Known
known_schema name = record { name = name; source = Ok Source.schema; columns = schema_columns }

-- the tables, and the two names of the table of the schema's rows
abbrev pub known_tables : List Table → List Known
known_tables tables = known_from 0 tables ++ known_schema (codes "sqlite_schema") ∷ known_schema (codes "sqlite_master") ∷ []

abbrev pub column_types : List Table → List (List Ty)
column_types tables = map (λ t. map (λ c. c.ty) t.columns) tables

-- the query, where its terms are typed, and so is what stands beside it
abbrev pub with_types : List (List Ty) → Named → Result Named Fault
with_types tables n = followed (each (body_types tables) n.beside) (λ _. also (λ _. n) (query_types tables n.query))

-- the query that a statement's names make, where it is typed; or what is wrong with the names; or with the types
abbrev pub typed_query : List Table → StatementTree → Result Named Fault
typed_query tables tree = followed (named (known_tables tables) tree) (with_types (column_types tables))

-- the statement is this query, and its result columns have these names
abbrev pub Types : List Table → StatementTree → Named → Type 0
Types tables tree query = typed_query tables tree ≡ Ok query

-- why it is none
abbrev pub IsNoQuery : List Table → StatementTree → Fault → Type 0
IsNoQuery tables tree fault = (fault ≡ NoMemory) ⊎ (typed_query tables tree ≡ Err fault)
