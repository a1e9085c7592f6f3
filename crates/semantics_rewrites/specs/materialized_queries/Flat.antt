-- Queries in which no other queries stand: each source that is no table is one behind the others, and the values of inner queries
-- stand in the places of these. (SELECT; SQL Language Expressions, "The IN and NOT IN Operators", "The EXISTS Operator")
use Rattle.std.specs.Prelude.{ℕ, ◌+◌, List, [], ◌∷◌, ◌++◌, length, map}
use Rattle.values.specs.Database.{Database}
use Rattle.values.specs.Datum.{Datum}
use Rattle.expr.specs.Filled.{filled}
use Rattle.expr.specs.Term.{Term}
use Rattle.semantics.specs.Body.{answers_in, source_rows}
use Rattle.semantics.specs.Query.{Body, From, QueryData, Source, body_width, compound, derived, joined, nothing, schema, select, source_width, table, with_inner}
use Rattle.semantics.specs.Mapped.{mapped_key, mapped_select}

-- ---- the sources that are no tables, in their order

abbrev pub kept_source : Source → List Source
kept_source (table at width) = []
kept_source schema = schema ∷ []
kept_source (derived body) = derived body ∷ []

abbrev pub kept_in : From → List Source
kept_in nothing = []
kept_in (joined from kind source on) = kept_in from ++ kept_source source
kept_in (with_inner from query) = kept_in from

abbrev pub kept_of : Body → List Source
kept_of (select from s) = kept_in from
kept_of (compound body operator from s) = kept_of body ++ kept_in from

-- ---- each of them as a table, from this place on

abbrev pub materialized_source : ℕ → Source → Source
materialized_source place (table at width) = table at width
materialized_source place schema = table place (source_width schema)
materialized_source place (derived body) = table place (body_width body)

-- FROM without inner queries, where these expressions stand in the places of those of ON
abbrev pub materialized_from : (Term → Term) → ℕ → From → From
materialized_from f place nothing = nothing
materialized_from f place (joined from kind source on) = joined (materialized_from f place from) kind (materialized_source (place + length (kept_in from)) source) (f on)
materialized_from f place (with_inner from query) = materialized_from f place from

-- the FROM of the one SELECT, or of the last
abbrev pub last_from : Body → From
last_from (select from s) = from
last_from (compound body operator from s) = from

module _ (w : Datum) (db : Database) where
  -- an expression of a SELECT with this FROM, with the values of its inner queries in their places
  abbrev pub answered : From → Term → Term
  answered from = filled (answers_in w db from)

  abbrev pub materialized_body : ℕ → Body → Body
  materialized_body place (select from s) = select (materialized_from (answered from) place from) (mapped_select (answered from) s)
  materialized_body place (compound body operator from s) =
      compound (materialized_body place body) operator (materialized_from (answered from) (place + length (kept_of body)) from) (mapped_select (answered from) s)

  abbrev pub flat : ℕ → QueryData → QueryData
  flat place query = record query {
    body = materialized_body place query.body;
    order = map (mapped_key (answered (last_from query.body))) query.order;
  }

  -- the rows of these sources stand behind those of the tables
  abbrev pub with_kept : List Source → Database
  with_kept sources = record { schema = db.schema; tables = db.tables ++ map (source_rows w db) sources }
