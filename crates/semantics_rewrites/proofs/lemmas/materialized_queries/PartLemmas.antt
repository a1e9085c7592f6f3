-- The queries in a query.
use Rattle.std.proofs.Common.{◌≡◌, ◌<◌, ◌≤◌, ℕ, All, Bool, false, ◌||◌, List, [], ◌∷◌, map, refl, sym, subst, arith, inl, inr, IsPermutation}
use Rattle.std.proofs.lemmas.List.Elements.{All-append, All-cons, All-nil, All-weaker}
use Rattle.std.proofs.lemmas.List.Sorted.{IsPermutation-map, IsPermutation-refl}
use Rattle.values.specs.Database.{Database}
use Rattle.values.specs.Datum.{Datum}
use Rattle.values.specs.Row.{Row}
use Rattle.values.specs.declared.value.Ty.{Ty}
use Rattle.semantics.proofs.ScanLemmas.{outputs-rows}
use Rattle.semantics.specs.Answer.{Permits}
use Rattle.semantics.specs.Body.{Output, SameTables, answers_in, body_rows, source_rows}
use Rattle.semantics.specs.Hits.{BodyHits, FromHits, Hits, HitsOrdered, InnerHits, SourceHits}
use Rattle.semantics.specs.Joins.{pads_left}
use Rattle.semantics.specs.Query.{Body, From, InnerQuery, Key, Source, compound, derived, exists, joined, nothing, schema, select, table, values_of, with_inner}
use Rattle.semantics.specs.Typed.{AnswersHaveTypes, BodyHasTypes, FromHasTypes, InnerHasType, SourceHasTypes}
use Rattle.semantics_rewrites.specs.schema_sources.Within.{IsBodyWithin, IsFromWithin, IsInnerWithin, IsSourceWithin}
use Rattle.semantics_rewrites.proofs.lemmas.materialized_queries.AnswerLemmas.{all_same, zip_turned}
use Rattle.semantics_rewrites.proofs.lemmas.materialized_queries.FlatTypeLemmas.{zip_append}
use Rattle.semantics_rewrites.specs.materialized_queries.Flat.{kept_in, kept_of, kept_source, with_kept}
use Rattle.semantics_rewrites.specs.materialized_queries.FlatWith.{AreKept, body_in, queries_in, queries_of, with_rows}
use Rattle.semantics_rewrites.specs.materialized_queries.Parts.{body_size, from_size, plain, query_size, source_size}

-- a source that is no table is the one of itself
one_source : (P : Source → Type 0) (source : Source) → P source → All P (kept_source source)
one_source P (table at width) holds = All-nil P
one_source P schema holds = All-cons P schema [] holds (All-nil P)
one_source P (derived of) holds = All-cons P (derived of) [] holds (All-nil P)

-- ---- they are smaller

sources_smaller_in : (from : From) → All (λ source. source_size source ≤ from_size from) (kept_in from)
sources_smaller_in nothing = All-nil _
sources_smaller_in (joined from kind source on) =
    All-append (λ s. source_size s ≤ from_size (joined from kind source on)) (kept_in from) (kept_source source)
    (All-weaker (λ s. source_size s ≤ from_size from) (λ s. source_size s ≤ from_size (joined from kind source on)) (λ s less. omega (arith, less)) (kept_in from) (sources_smaller_in from))
    (one_source (λ s. source_size s ≤ from_size (joined from kind source on)) source (omega arith))
sources_smaller_in (with_inner from query) =
    All-weaker (λ s. source_size s ≤ from_size from) (λ s. source_size s ≤ from_size (with_inner from query)) (λ s less. omega (arith, less)) (kept_in from) (sources_smaller_in from)

pub sources_smaller : (of : Body) → All (λ source. source_size source < body_size of) (kept_of of)
sources_smaller (select from s) =
    All-weaker (λ t. source_size t ≤ from_size from) (λ t. source_size t < body_size (select from s)) (λ t less. omega (arith, less)) (kept_in from) (sources_smaller_in from)
sources_smaller (compound before operator from s) =
    All-append (λ t. source_size t < body_size (compound before operator from s)) (kept_of before) (kept_in from)
    (All-weaker (λ t. source_size t < body_size before) (λ t. source_size t < body_size (compound before operator from s)) (λ t less. omega (arith, less)) (kept_of before) (sources_smaller before))
    (All-weaker (λ t. source_size t ≤ from_size from) (λ t. source_size t < body_size (compound before operator from s)) (λ t less. omega (arith, less)) (kept_in from) (sources_smaller_in from))

body_in_size : (query : InnerQuery) → body_size (body_in query) ≡ query_size query
body_in_size (values_of of) = refl
body_in_size (exists of) = refl

queries_smaller_in : (from : From) → All (λ query. body_size (body_in query) ≤ from_size from) (queries_in from)
queries_smaller_in nothing = All-nil _
queries_smaller_in (joined from kind source on) =
    All-weaker (λ q. body_size (body_in q) ≤ from_size from) (λ q. body_size (body_in q) ≤ from_size (joined from kind source on)) (λ q less. omega (arith, less)) (queries_in from) (queries_smaller_in from)
queries_smaller_in (with_inner from query) =
    let same = body_in_size query in
    All-append (λ q. body_size (body_in q) ≤ from_size (with_inner from query)) (queries_in from) (query ∷ [])
    (All-weaker (λ q. body_size (body_in q) ≤ from_size from) (λ q. body_size (body_in q) ≤ from_size (with_inner from query)) (λ q less. omega (arith, less)) (queries_in from) (queries_smaller_in from))
    (All-cons (λ q. body_size (body_in q) ≤ from_size (with_inner from query)) query [] (omega (arith, same)) (All-nil _))

pub queries_smaller : (of : Body) → All (λ query. body_size (body_in query) < body_size of) (queries_of of)
queries_smaller (select from s) =
    All-weaker (λ q. body_size (body_in q) ≤ from_size from) (λ q. body_size (body_in q) < body_size (select from s)) (λ q less. omega (arith, less)) (queries_in from) (queries_smaller_in from)
queries_smaller (compound before operator from s) =
    All-append (λ q. body_size (body_in q) < body_size (compound before operator from s)) (queries_of before) (queries_in from)
    (All-weaker (λ q. body_size (body_in q) < body_size before) (λ q. body_size (body_in q) < body_size (compound before operator from s)) (λ q less. omega (arith, less)) (queries_of before) (queries_smaller before))
    (All-weaker (λ q. body_size (body_in q) ≤ from_size from) (λ q. body_size (body_in q) < body_size (compound before operator from s)) (λ q less. omega (arith, less)) (queries_in from) (queries_smaller_in from))

-- ---- they name the tables that it names

inner_is_within : (count : ℕ) (query : InnerQuery) → IsInnerWithin count query → IsBodyWithin count (body_in query)
inner_is_within count (values_of of) is = is
inner_is_within count (exists of) is = is

module _ (count : ℕ) where
  sources_within_in : (from : From) → IsFromWithin count from → All (IsSourceWithin count) (kept_in from)
  sources_within_in nothing is = All-nil _
  sources_within_in (joined from kind source on) is =
      All-append (IsSourceWithin count) (kept_in from) (kept_source source) (sources_within_in from is.0) (one_source (IsSourceWithin count) source is.1)
  sources_within_in (with_inner from query) is = sources_within_in from is.0

  pub sources_within : (of : Body) → IsBodyWithin count of → All (IsSourceWithin count) (kept_of of)
  sources_within (select from s) is = sources_within_in from is
  sources_within (compound before operator from s) is =
      All-append (IsSourceWithin count) (kept_of before) (kept_in from) (sources_within before is.0) (sources_within_in from is.1)

  abbrev QueryWithin : InnerQuery → Type 0
  QueryWithin query = IsBodyWithin count (body_in query)

  queries_within_in : (from : From) → IsFromWithin count from → All QueryWithin (queries_in from)
  queries_within_in nothing is = All-nil _
  queries_within_in (joined from kind source on) is = queries_within_in from is.0
  queries_within_in (with_inner from query) is =
      All-append QueryWithin (queries_in from) (query ∷ []) (queries_within_in from is.0) (All-cons QueryWithin query [] (inner_is_within count query is.1) (All-nil _))

  pub queries_within : (of : Body) → IsBodyWithin count of → All QueryWithin (queries_of of)
  queries_within (select from s) is = queries_within_in from is
  queries_within (compound before operator from s) is =
      All-append QueryWithin (queries_of before) (queries_in from) (queries_within before is.0) (queries_within_in from is.1)

-- ---- they are typed where it is

module _ (catalog : List (List Ty)) where
  abbrev pub SourceTyped : Source → Type 0
  SourceTyped source = (types : List Ty) × SourceHasTypes catalog source types

  abbrev pub QueryTyped : InnerQuery → Type 0
  QueryTyped query = (types : List Ty) × BodyHasTypes catalog (body_in query) types

  sources_typed_in : (answers : List Ty) (from : From) (types : List Ty) → FromHasTypes catalog answers from types → All SourceTyped (kept_in from)
  sources_typed_in answers nothing types has = All-nil _
  sources_typed_in answers (joined from kind source on) types has =
      All-append SourceTyped (kept_in from) (kept_source source) (sources_typed_in answers from has.0 has.2) (one_source SourceTyped source (has.1, has.3))
  sources_typed_in answers (with_inner from query) types has = sources_typed_in answers from types has

  pub sources_typed : (of : Body) (types : List Ty) → BodyHasTypes catalog of types → All SourceTyped (kept_of of)
  sources_typed (select from s) types has = sources_typed_in has.0 from has.1 has.3
  sources_typed (compound before operator from s) types has =
      All-append SourceTyped (kept_of before) (kept_in from) (sources_typed before types has.0) (sources_typed_in has.1.0 from has.1.1 has.1.3)

  inner_typed : (query : InnerQuery) (ty : Ty) → InnerHasType catalog query ty → QueryTyped query
  inner_typed (values_of of) ty has = (ty ∷ [], has)
  inner_typed (exists of) ty has = has.0

  queries_typed_in : (from : From) (answers : List Ty) → AnswersHaveTypes catalog from answers → All QueryTyped (queries_in from)
  queries_typed_in nothing answers has = All-nil _
  queries_typed_in (joined from kind source on) answers has = queries_typed_in from answers has
  queries_typed_in (with_inner from query) answers has =
      All-append QueryTyped (queries_in from) (query ∷ []) (queries_typed_in from has.0 has.2)
      (All-cons QueryTyped query [] (inner_typed query has.1 has.3) (All-nil _))

  pub queries_typed : (of : Body) (types : List Ty) → BodyHasTypes catalog of types → All QueryTyped (queries_of of)
  queries_typed (select from s) types has = queries_typed_in from has.0 has.2
  queries_typed (compound before operator from s) types has =
      All-append QueryTyped (queries_of before) (queries_in from) (queries_typed before types has.0) (queries_typed_in from has.1.0 has.1.2)

-- ---- what they reach it reaches

module _ (w : Datum) (db : Database) where
  sources_hit_in : (answers : List (List Datum)) (from : From) (padded : Bool) → All (λ source. SourceHits w db source → FromHits w db answers from padded) (kept_in from)
  sources_hit_in answers nothing padded = All-nil _
  sources_hit_in answers (joined from kind source on) padded =
      All-append (λ s. SourceHits w db s → FromHits w db answers (joined from kind source on) padded) (kept_in from) (kept_source source)
      (All-weaker (λ s. SourceHits w db s → FromHits w db answers from (padded || pads_left kind)) (λ s. SourceHits w db s → FromHits w db answers (joined from kind source on) padded)
      (λ s hit hits. inl (hit hits)) (kept_in from) (sources_hit_in answers from (padded || pads_left kind)))
      (one_source (λ s. SourceHits w db s → FromHits w db answers (joined from kind source on) padded) source (λ hits. inr (inl hits)))
  sources_hit_in answers (with_inner from query) padded =
      All-weaker (λ s. SourceHits w db s → FromHits w db answers from padded) (λ s. SourceHits w db s → FromHits w db answers (with_inner from query) padded)
      (λ s hit hits. inl (hit hits)) (kept_in from) (sources_hit_in answers from padded)

  inner_hit : (query : InnerQuery) → BodyHits w db (body_in query) → InnerHits w db query
  inner_hit (values_of of) hits = hits
  inner_hit (exists of) hits = hits

  queries_hit_in : (answers : List (List Datum)) (from : From) (padded : Bool)
      → All (λ query. BodyHits w db (body_in query) → FromHits w db answers from padded) (queries_in from)
  queries_hit_in answers nothing padded = All-nil _
  queries_hit_in answers (joined from kind source on) padded =
      All-weaker (λ q. BodyHits w db (body_in q) → FromHits w db answers from (padded || pads_left kind))
      (λ q. BodyHits w db (body_in q) → FromHits w db answers (joined from kind source on) padded)
      (λ q hit hits. inl (hit hits)) (queries_in from) (queries_hit_in answers from (padded || pads_left kind))
  queries_hit_in answers (with_inner from query) padded =
      All-append (λ q. BodyHits w db (body_in q) → FromHits w db answers (with_inner from query) padded) (queries_in from) (query ∷ [])
      (All-weaker (λ q. BodyHits w db (body_in q) → FromHits w db answers from padded) (λ q. BodyHits w db (body_in q) → FromHits w db answers (with_inner from query) padded)
      (λ q hit hits. inl (hit hits)) (queries_in from) (queries_hit_in answers from padded))
      (All-cons (λ q. BodyHits w db (body_in q) → FromHits w db answers (with_inner from query) padded) query [] (λ hits. inr (inner_hit query hits)) (All-nil _))

  sources_hit_body : (of : Body) → All (λ source. SourceHits w db source → BodyHits w db of) (kept_of of)
  sources_hit_body (select from s) =
      All-weaker (λ t. SourceHits w db t → FromHits w db (answers_in w db from) from false) (λ t. SourceHits w db t → BodyHits w db (select from s))
      (λ t hit hits. inl (hit hits)) (kept_in from) (sources_hit_in (answers_in w db from) from false)
  sources_hit_body (compound before operator from s) =
      All-append (λ t. SourceHits w db t → BodyHits w db (compound before operator from s)) (kept_of before) (kept_in from)
      (All-weaker (λ t. SourceHits w db t → BodyHits w db before) (λ t. SourceHits w db t → BodyHits w db (compound before operator from s))
      (λ t hit hits. inl (hit hits)) (kept_of before) (sources_hit_body before))
      (All-weaker (λ t. SourceHits w db t → FromHits w db (answers_in w db from) from false) (λ t. SourceHits w db t → BodyHits w db (compound before operator from s))
      (λ t hit hits. inr (inl (hit hits))) (kept_in from) (sources_hit_in (answers_in w db from) from false))

  queries_hit_body : (of : Body) → All (λ query. BodyHits w db (body_in query) → BodyHits w db of) (queries_of of)
  queries_hit_body (select from s) =
      All-weaker (λ q. BodyHits w db (body_in q) → FromHits w db (answers_in w db from) from false) (λ q. BodyHits w db (body_in q) → BodyHits w db (select from s))
      (λ q hit hits. inl (hit hits)) (queries_in from) (queries_hit_in (answers_in w db from) from false)
  queries_hit_body (compound before operator from s) =
      All-append (λ q. BodyHits w db (body_in q) → BodyHits w db (compound before operator from s)) (queries_of before) (queries_in from)
      (All-weaker (λ q. BodyHits w db (body_in q) → BodyHits w db before) (λ q. BodyHits w db (body_in q) → BodyHits w db (compound before operator from s))
      (λ q hit hits. inl (hit hits)) (queries_of before) (queries_hit_body before))
      (All-weaker (λ q. BodyHits w db (body_in q) → FromHits w db (answers_in w db from) from false) (λ q. BodyHits w db (body_in q) → BodyHits w db (compound before operator from s))
      (λ q hit hits. inr (inl (hit hits))) (queries_in from) (queries_hit_in (answers_in w db from) from false))

  pub sources_hit : (order : List Key) (of : Body) → All (λ source. SourceHits w db source → HitsOrdered w db order of) (kept_of of)
  sources_hit order (select from s) =
      All-weaker (λ t. SourceHits w db t → FromHits w db (answers_in w db from) from false) (λ t. SourceHits w db t → HitsOrdered w db order (select from s))
      (λ t hit hits. inl (hit hits)) (kept_in from) (sources_hit_in (answers_in w db from) from false)
  sources_hit order (compound before operator from s) = sources_hit_body (compound before operator from s)

  pub queries_hit : (order : List Key) (of : Body) → All (λ query. BodyHits w db (body_in query) → HitsOrdered w db order of) (queries_of of)
  queries_hit order (select from s) =
      All-weaker (λ q. BodyHits w db (body_in q) → FromHits w db (answers_in w db from) from false) (λ q. BodyHits w db (body_in q) → HitsOrdered w db order (select from s))
      (λ q hit hits. inl (hit hits)) (queries_in from) (queries_hit_in (answers_in w db from) from false)
  queries_hit order (compound before operator from s) = queries_hit_body (compound before operator from s)

  pub plain_hits : (of : Body) → Hits w db (plain of) → BodyHits w db of
  plain_hits (select from s) hits = hits
  plain_hits (compound before operator from s) hits = hits

  pub plain_rows : (of : Body) (rows : List Row) → Permits w db (plain of) rows → IsPermutation (body_rows w db of) rows
  plain_rows of rows permits =
      subst (IsPermutation (body_rows w db of)) (sym permits.shown)
      (subst (λ own. IsPermutation own (map (λ (o : Output). o.row) permits.ordered)) (outputs-rows w db [] of)
      (IsPermutation-map (λ (o : Output). o.row) _ _ permits.same))

  -- rows of the sources that are no tables, in whichever order, stand where theirs do
  pub kept_same : (of : Body) (kept : List (List Row)) → AreKept w db of kept → SameTables (with_rows db kept) (with_kept w db (kept_of of))
  kept_same of kept are = record {
    schema = IsPermutation-refl db.schema;
    tables = zip_append IsPermutation db.tables db.tables kept (map (source_rows w db) (kept_of of)) (all_same db.tables)
        (zip_turned (map (source_rows w db) (kept_of of)) kept are);
  }
