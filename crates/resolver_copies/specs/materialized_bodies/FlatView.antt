-- The parts of flat queries, as plain data.
use Rattle.std.specs.Prelude.{ℕ, List, [], ◌∷◌, ◌++◌, ◌+◌, Vec, length, map}
use Rattle.std.specs.Borrow.{Bor}
use Rattle.std.specs.Global.{Global}
use Rattle.values.specs.Datum.{Datum, datum_of}
use Rattle.values.specs.declared.value.Value.{Value}
use Rattle.expr.specs.Term.{Term}
use Rattle.semantics.specs.Query as q
use Rattle.resolver_bodies.specs.BodyView.{JoinedData, SingleData, inner_of, source_of}
use Rattle.resolver_bodies.specs.declared.bodies.InnerQuery.{InnerQuery}
use Rattle.resolver_bodies.specs.declared.bodies.Source.{Source}
use Rattle.semantics_rewrites.specs.materialized_queries.Flat.{materialized_from, materialized_source, kept_source}
use Rattle.semantics.specs.Mapped.{mapped_select}

-- lists of values, as rows are and the values of inner queries
abbrev pub lists_of : List (Vec Value Global) → List (List Datum)
lists_of lists = map (λ values. map datum_of values.items) lists

-- what was found in a query
abbrev pub sources_in : Vec (Bor Source) Global → List q.Source
sources_in found = map (λ source. source_of source.now) found.items

abbrev pub queries_found : Vec (Bor InnerQuery) Global → List q.InnerQuery
queries_found found = map (λ query. inner_of query.now) found.items

-- the sources that are no tables, of sources that are joined from the left
abbrev pub kept_among : List JoinedData → List q.Source
kept_among [] = []
kept_among (j ∷ js) = kept_source j.source ++ kept_among js

module _ (f : Term → Term) where
  -- a source as a table, joined as it was, where these expressions stand
  abbrev pub materialized_joined : ℕ → JoinedData → JoinedData
  materialized_joined place j = record { kind = j.kind; source = materialized_source place j.source; condition = f j.condition }

  -- from this place on
  abbrev pub all_flat : ℕ → List JoinedData → List JoinedData
  all_flat place [] = []
  all_flat place (j ∷ js) = materialized_joined place j ∷ all_flat (place + length (kept_source j.source)) js

  -- a SELECT, over its sources as tables
  abbrev pub materialized_one : ℕ → SingleData → SingleData
  materialized_one place s = record { from = materialized_from f place s.from; select = mapped_select f s.select }
