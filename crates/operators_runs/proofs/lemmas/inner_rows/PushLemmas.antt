-- One list of rows, or of values, behind those that there are.
use Rattle.std.proofs.Common.{◌≡◌, List, [], ◌∷◌, ◌++◌, Vec, Global, map, sym, subst, IsPermutation}
use Rattle.std.proofs.lemmas.List.{map_push}
use Rattle.std.proofs.lemmas.List.Elements.{All-head}
use Rattle.values.specs.Database.{Database}
use Rattle.values.specs.Datum.{Datum, datum_of}
use Rattle.values.specs.Row.{Row, rows_data}
use Rattle.values.specs.declared.fault.Fault.{Fault}
use Rattle.values.specs.declared.value.Value.{Value}
use Rattle.pager.specs.Calls.{SameImage}
use Rattle.pager.specs.PagerState.{PagerState}
use Rattle.btree.specs.image.Pages.{WhereSteady}
use Rattle.schema_tables.specs.ColumnTypes.{column_types}
use Rattle.schema_tables.specs.TableData.{TableData}
use Rattle.resolver_copies.specs.materialized_bodies.FlatView.{lists_of}
use Rattle.semantics_rewrites.specs.materialized_queries.Flat.{kept_of}
use Rattle.semantics_rewrites.specs.materialized_queries.FlatWith.{answer_from, body_in, queries_of}
use Rattle.semantics.specs.Body.{body_rows}
use Rattle.semantics.specs.Query.{Body, InnerQuery, derived}
use Rattle.operators_loops.specs.Basis.{Basis}
use Rattle.operators_runs.specs.inner_rows.Computed.{AddsAsMany, AddsRows, AreComputedRows, AreRowsFor}
use Rattle.operators_runs.specs.inner_rows.InnerView.{InnerData, kept_rows}
use Rattle.operators_runs.specs.inner_rows.Over.{AreSaid, IsBodyCause}
use Rattle.operators_runs.specs.inner_rows.Runnable.{AreComputable, IsComputable, IsComputableBody}
use Rattle.operators_runs.proofs.lemmas.inner_rows.AddingLemmas.{AddsWhere, StopsWhere, at_first}
use Rattle.operators_runs.proofs.lemmas.inner_rows.ComputedLemmas.{adds_query, adds_source, cause_body, cause_query, cause_source, many_query, many_source, rows_none}
use Rattle.operators_runs.proofs.lemmas.inner_rows.KeptLemmas.{Lists}
use Rattle.operators_runs.proofs.lemmas.inner_rows.RunnableLemmas.{computable_parts}

module _ (kept : Lists) (answers : List (Vec Value Global)) where
  abbrev pub held : InnerData
  held = record { kept = kept_rows kept; answers = lists_of answers }

  -- ---- rows

  module _ (rows : Vec (Vec Value Global) Global) where
    abbrev pub with_rows : InnerData
    with_rows = record { kept = kept_rows (kept ++ rows ∷ []); answers = lists_of answers }

    rows_behind : kept_rows (kept ++ rows ∷ []) ≡ kept_rows kept ++ rows_data rows.items ∷ []
    rows_behind = map_push (λ rows. rows_data rows.items) kept rows

    pub many_rows : (of : Body) → AddsAsMany (derived of ∷ []) [] held with_rows
    many_rows of =
        subst (λ (all : List (List Row)). AddsAsMany (derived of ∷ []) [] held (record { kept = all; answers = lists_of answers })) (sym rows_behind)
        (many_source (derived of) (kept_rows kept) (rows_data rows.items) (lists_of answers))

    pub adds_rows : (w : Datum) (db : Database) (of : Body) → IsPermutation (body_rows w db of) (rows_data rows.items)
        → AddsRows w db (derived of ∷ []) [] held with_rows
    adds_rows w db of same =
        subst (λ (all : List (List Row)). AddsRows w db (derived of ∷ []) [] held (record { kept = all; answers = lists_of answers })) (sym rows_behind)
        (adds_source w db (derived of) (kept_rows kept) (rows_data rows.items) (lists_of answers) same)

  -- ---- values

  module _ (values : Vec Value Global) where
    abbrev pub with_values : InnerData
    with_values = record { kept = kept_rows kept; answers = lists_of (answers ++ values ∷ []) }

    values_behind : lists_of (answers ++ values ∷ []) ≡ lists_of answers ++ map datum_of values.items ∷ []
    values_behind = map_push (λ values. map datum_of values.items) answers values

    pub many_values : (query : InnerQuery) → AddsAsMany [] (query ∷ []) held with_values
    many_values query =
        subst (λ (all : List (List Datum)). AddsAsMany [] (query ∷ []) held (record { kept = kept_rows kept; answers = all })) (sym values_behind)
        (many_query query (kept_rows kept) (lists_of answers) (map datum_of values.items))

    pub adds_values : (w : Datum) (db : Database) (query : InnerQuery) (rows : List Row) → AreRowsFor w db query rows
        → map datum_of values.items ≡ answer_from query rows → AddsRows w db [] (query ∷ []) held with_values
    adds_values w db query rows are is =
        subst (λ (all : List (List Datum)). AddsRows w db [] (query ∷ []) held (record { kept = kept_rows kept; answers = all })) (sym values_behind)
        (adds_query w db query (kept_rows kept) (lists_of answers) rows (map datum_of values.items) are is)

-- ---- where the pages stay

module _ (tables : List TableData) (start : PagerState) where
  -- the rows of a query, or why there are none
  abbrev pub GivesWhere : Body → (Basis → Type 0) → Type 0
  GivesWhere of Says = WhereSteady start (λ pages. (on : Basis) → AreSaid pages tables on → IsComputableBody (column_types tables) of → Says on)

  pub one_derived : (of : Body) → AreComputable (column_types tables) (derived of ∷ []) [] → IsComputableBody (column_types tables) of
  one_derived of all = All-head (IsComputable (column_types tables)) (derived of) [] all.0

  pub one_query : (query : InnerQuery) → AreComputable (column_types tables) [] (query ∷ []) → IsComputableBody (column_types tables) (body_in query)
  one_query query all = All-head (λ query. IsComputableBody (column_types tables) (body_in query)) query [] all.1

  pub derived_adds : (of : Body) (kept : Lists) (answers : List (Vec Value Global)) (rows : Vec (Vec Value Global) Global)
      → GivesWhere of (λ on. IsPermutation (body_rows on.w on.db of) (rows_data rows.items))
      → AddsWhere tables start (derived of ∷ []) [] (held kept answers) (with_rows kept answers rows)
  derived_adds of kept answers rows gives = λ steady on said all. adds_rows kept answers rows on.w on.db of (gives steady on said (one_derived of all))

  pub derived_stops : (of : Body) (e : Fault) → GivesWhere of (λ on. IsBodyCause on of e) → StopsWhere tables start (derived of ∷ []) [] e
  derived_stops of e stops = λ steady on said all. cause_source on of e (stops steady on said (one_derived of all))

  pub query_adds : (query : InnerQuery) (kept : Lists) (answers : List (Vec Value Global)) (rows : Vec (Vec Value Global) Global) (values : Vec Value Global)
      → GivesWhere (body_in query) (λ on. AreRowsFor on.w on.db query (rows_data rows.items))
      → map datum_of values.items ≡ answer_from query (rows_data rows.items)
      → AddsWhere tables start [] (query ∷ []) (held kept answers) (with_values kept answers values)
  query_adds query kept answers rows values gives is = λ steady on said all.
      adds_values kept answers values on.w on.db query (rows_data rows.items) (gives steady on said (one_query query all)) is

  pub asked_stops : (query : InnerQuery) (e : Fault) → GivesWhere (body_in query) (λ on. IsBodyCause on (body_in query) e) → StopsWhere tables start [] (query ∷ []) e
  asked_stops query e stops = λ steady on said all. cause_query on query e (stops steady on said (one_query query all))

-- ---- a body

pub rows_held : (w : Datum) (db : Database) (kept : Lists) (answers : List (Vec Value Global)) → kept ≡ [] → answers ≡ []
    → AreComputedRows w db [] [] (held kept answers)
rows_held w db kept answers none nothing =
    subst (λ (all : Lists). AreComputedRows w db [] [] (held all answers)) (sym none)
    (subst (λ (all : List (Vec Value Global)). AreComputedRows w db [] [] (held [] all)) (sym nothing) (rows_none w db))

module _ (tables : List TableData) (start now : PagerState) (stays : SameImage start now) (of : Body) where
  pub body_gives : (Says : Basis → Type 0) (kept : Lists) (answers : List (Vec Value Global)) (new : InnerData) → kept ≡ [] → answers ≡ []
      → AddsWhere tables start (kept_of of) (queries_of of) (held kept answers) new
      → GivesWhere tables now of (λ on. AreComputedRows on.w on.db (kept_of of) (queries_of of) new → Says on)
      → GivesWhere tables start of Says
  body_gives Says kept answers new none nothing adds gives = λ steady on said runs.
      at_first start now stays
      (λ pages. (on : Basis) → AreSaid pages tables on → IsComputableBody (column_types tables) of → AreComputedRows on.w on.db (kept_of of) (queries_of of) new → Says on)
      gives steady on said runs
      (adds steady on said (computable_parts (column_types tables) of runs) [] [] (rows_held on.w on.db kept answers none nothing))

  pub body_stops : (e : Fault) → StopsWhere tables start (kept_of of) (queries_of of) e → GivesWhere tables start of (λ on. IsBodyCause on of e)
  body_stops e stops = λ steady on said runs. cause_body on of e (stops steady on said (computable_parts (column_types tables) of runs))
