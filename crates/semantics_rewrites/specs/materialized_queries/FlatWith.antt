-- Queries in which no other queries stand, made with the values that were found of each inner query: SELECT by SELECT, and in each in
-- their order. (SQL Language Expressions, "The IN and NOT IN Operators", "The EXISTS Operator")
use Rattle.std.specs.Prelude.{ℕ, ◌+◌, List, [], ◌∷◌, ◌++◌, drop, length, map, take, IsPermutation}
use Rattle.std.specs.List.{AllZip}
use Rattle.values.specs.Database.{Database}
use Rattle.values.specs.Datum.{Datum}
use Rattle.values.specs.Row.{Row}
use Rattle.expr.specs.Filled.{filled}
use Rattle.semantics.specs.Body.{answer_of, one_if_some, source_rows}
use Rattle.semantics.specs.Query.{Body, From, InnerQuery, QueryData, compound, exists, joined, nothing, select, values_of, with_inner}
use Rattle.semantics.specs.Sequence.{value_at}
use Rattle.semantics.specs.Mapped.{mapped_key, mapped_select}
use Rattle.semantics_rewrites.specs.materialized_queries.Flat.{materialized_from, kept_of}

-- ---- the queries inside expressions, in their order

abbrev pub queries_in : From → List InnerQuery
queries_in nothing = []
queries_in (joined from kind source on) = queries_in from
queries_in (with_inner from query) = queries_in from ++ query ∷ []

abbrev pub queries_of : Body → List InnerQuery
queries_of (select from s) = queries_in from
queries_of (compound body operator from s) = queries_of body ++ queries_in from

-- what one computes
abbrev pub body_in : InnerQuery → Body
body_in (values_of body) = body
body_in (exists body) = body

-- its values, from the rows of what it computes
abbrev pub answer_from : InnerQuery → List Row → List Datum
answer_from (values_of body) rows = map (λ row. value_at row 0) rows
answer_from (exists body) rows = one_if_some rows

-- ---- with these values of each of them

abbrev pub materialized_body_with : List (List Datum) → ℕ → Body → Body
materialized_body_with answers place (select from s) = select (materialized_from (filled answers) place from) (mapped_select (filled answers) s)
materialized_body_with answers place (compound body operator from s) =
    let own = drop (length (queries_of body)) answers in
    compound (materialized_body_with (take (length (queries_of body)) answers) place body) operator
    (materialized_from (filled own) (place + length (kept_of body)) from) (mapped_select (filled own) s)

-- those of the one SELECT, or of the last
abbrev pub last_answers : List (List Datum) → Body → List (List Datum)
last_answers answers (select from s) = answers
last_answers answers (compound body operator from s) = drop (length (queries_of body)) answers

abbrev pub materialized_with : List (List Datum) → ℕ → QueryData → QueryData
materialized_with answers place query = record query {
  body = materialized_body_with answers place query.body;
  order = map (mapped_key (filled (last_answers answers query.body))) query.order;
}

-- these rows stand behind those of the tables
abbrev pub with_rows : Database → List (List Row) → Database
with_rows db kept = record { schema = db.schema; tables = db.tables ++ kept }

module _ (w : Datum) (db : Database) where
  -- these are the rows of the sources of a body that are no tables, of each in whichever order
  abbrev pub AreKept : Body → List (List Row) → Type 0
  AreKept body kept = AllZip IsPermutation (map (source_rows w db) (kept_of body)) kept

  -- these are the values of the inner queries of a body, of each in whichever order
  abbrev pub AreAnswers : Body → List (List Datum) → Type 0
  AreAnswers body answers = AllZip IsPermutation (map (answer_of w db) (queries_of body)) answers
