-- Queries over the schema's table as one more table, behind those of the catalog. (The Schema Table)
use Rattle.std.specs.Prelude.{ℕ, List, [], ◌∷◌, ◌++◌}
use Rattle.values.specs.Database.{Database}
use Rattle.values.specs.declared.value.Ty.{Ty}
use Rattle.semantics.specs.Query.{Body, From, InnerQuery, QueryData, Source, compound, derived, exists, joined, nothing, schema, select, source_width, table, values_of, with_inner}
use Rattle.semantics.specs.Typed.{schema_types}

-- the rows of the schema's table stand behind those of the others
abbrev pub with_schema : Database → Database
with_schema db = record { schema = db.schema; tables = db.tables ++ db.schema ∷ [] }

-- so do the types of its columns
abbrev pub types_with_schema : List (List Ty) → List (List Ty)
types_with_schema tables = tables ++ schema_types ∷ []

-- wherever the schema's table is named, at any depth, the table at this place is
module _ (place : ℕ) where
  abbrev mutual
    pub with_schema_source : Source → Source
    with_schema_source (table at width) = table at width
    with_schema_source schema = table place (source_width schema)
    with_schema_source (derived body) = derived (with_schema_body body)

    pub with_schema_from : From → From
    with_schema_from nothing = nothing
    with_schema_from (joined from kind source on) = joined (with_schema_from from) kind (with_schema_source source) on
    with_schema_from (with_inner from query) = with_inner (with_schema_from from) (with_schema_inner query)

    pub with_schema_inner : InnerQuery → InnerQuery
    with_schema_inner (values_of body) = values_of (with_schema_body body)
    with_schema_inner (exists body) = exists (with_schema_body body)

    pub with_schema_body : Body → Body
    with_schema_body (select from s) = select (with_schema_from from) s
    with_schema_body (compound body operator from s) = compound (with_schema_body body) operator (with_schema_from from) s

  abbrev pub settled : QueryData → QueryData
  settled query = record query { body = with_schema_body query.body }
