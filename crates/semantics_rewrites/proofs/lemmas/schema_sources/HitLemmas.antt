-- What a query reaches whose schema's table is the table behind the others.
use Rattle.std.proofs.Common.{ℕ, Bool, false, ◌||◌, List, [], length, map, sym, ap, subst, inl, inr}
use Rattle.values.specs.Database.{Database}
use Rattle.values.specs.Datum.{Datum}
use Rattle.values.specs.Row.{Row}
use Rattle.expr.specs.Conjuncts.{conjuncts}
use Rattle.expr.specs.Filled.{filled}
use Rattle.expr.specs.Term.{Term}
use Rattle.semantics.proofs.ScanLemmas.{map-identity}
use Rattle.semantics.specs.Body.{answers_in, source_rows}
use Rattle.semantics.specs.Hits.{BodyHits, FromHits, Hits, HitsOrdered, InnerHits, IsChoice, IsChosen, SelectHits, SourceHits, order_terms}
use Rattle.semantics.specs.Joins.{pads_left, pads_right}
use Rattle.semantics.specs.Query.{Body, From, InnerQuery, Key, QueryData, Select, Source, compound, derived, exists, joined, nothing, schema, select, source_width, table, values_of, with_inner}
use Rattle.semantics.proofs.ItselfLemmas.{select_itself}
use Rattle.semantics_rewrites.proofs.lemmas.schema_sources.RowLemmas.{answers_same, rows_same, source_same, source_wide}
use Rattle.semantics_rewrites.proofs.lemmas.schema_sources.SelectHitLemmas.{select_hits}
use Rattle.semantics_rewrites.specs.schema_sources.Settled.{settled, with_schema_body, with_schema_from, with_schema_inner, with_schema_source, with_schema}
use Rattle.semantics_rewrites.specs.schema_sources.Within.{IsBodyWithin, IsFromWithin, IsInnerWithin, IsSourceWithin}

module _ (w : Datum) (db : Database) where
  abbrev count : ℕ
  count = length db.tables

  abbrev other : Database
  other = with_schema db

  pub choice_same : (from : From) (padded : Bool) (row : Row) → IsFromWithin count from → IsChoice w other padded (with_schema_from count from) row → IsChoice w db padded from row
  choice_same nothing padded row is chosen = chosen
  choice_same (joined from kind source on) padded row is chosen = (
    chosen.0,
    chosen.1,
    chosen.2,
    choice_same from (padded || pads_left kind) chosen.0 is.0 chosen.3,
    subst (λ (rows : List Row). IsChosen (padded || pads_right kind) (source_width source) rows chosen.1) (source_same w db source is.1)
        (subst (λ (width : ℕ). IsChosen (padded || pads_right kind) width (source_rows w other (with_schema_source count source)) chosen.1) (source_wide count source) chosen.4),
  )
  choice_same (with_inner from query) padded row is chosen = choice_same from padded row is.0 chosen

  selected : (from : From) (s : Select) (terms : List Term) → IsFromWithin count from → SelectHits w other (with_schema_from count from) s terms → SelectHits w db from s terms
  selected from s terms is hits =
      select_hits w db other from (with_schema_from count from) s (λ t. t)
      (λ t. ap (λ answers. filled answers t) (answers_same w db from is)) (λ t. sym (map-identity (conjuncts t)))
      (rows_same w db from is) (λ row. choice_same from false row is) terms
      (subst (λ (z : Select). SelectHits w other (with_schema_from count from) z (map (λ t. t) terms)) (sym (select_itself s))
      (subst (λ (ts : List Term). SelectHits w other (with_schema_from count from) s ts) (sym (map-identity terms)) hits))

  -- with the same answers of inner queries
  with_same : (from : From) → IsFromWithin count from → FromHits w other (answers_in w other (with_schema_from count from)) (with_schema_from count from) false
      → FromHits w other (answers_in w db from) (with_schema_from count from) false
  with_same from is hits = subst (λ (answers : List (List Datum)). FromHits w other answers (with_schema_from count from) false) (answers_same w db from is) hits

  mutual
    source_hits : (source : Source) → IsSourceWithin count source → SourceHits w other (with_schema_source count source) → SourceHits w db source
    source_hits (table at width) is hits = hits
    source_hits schema is hits = hits
    source_hits (derived body) is hits = body_hits body is hits

    from_hits : (answers : List (List Datum)) (from : From) (padded : Bool) → IsFromWithin count from → FromHits w other answers (with_schema_from count from) padded
        → FromHits w db answers from padded
    from_hits answers nothing padded is hits = hits
    from_hits answers (joined from kind source on) padded is (inl hits) = inl (from_hits answers from (padded || pads_left kind) is.0 hits)
    from_hits answers (joined from kind source on) padded is (inr (inl hits)) = inr (inl (source_hits source is.1 hits))
    from_hits answers (joined from kind source on) padded is (inr (inr (row, chosen, reached))) =
        inr (inr (row, choice_same (joined from kind source on) padded row is chosen, reached))
    from_hits answers (with_inner from query) padded is (inl hits) = inl (from_hits answers from padded is.0 hits)
    from_hits answers (with_inner from query) padded is (inr hits) = inr (inner_hits query is.1 hits)

    inner_hits : (query : InnerQuery) → IsInnerWithin count query → InnerHits w other (with_schema_inner count query) → InnerHits w db query
    inner_hits (values_of body) is hits = body_hits body is hits
    inner_hits (exists body) is hits = body_hits body is hits

    body_hits : (body : Body) → IsBodyWithin count body → BodyHits w other (with_schema_body count body) → BodyHits w db body
    body_hits (select from s) is (inl hits) = inl (from_hits (answers_in w db from) from false is (with_same from is hits))
    body_hits (select from s) is (inr hits) = inr (selected from s [] is hits)
    body_hits (compound body operator from s) is (inl hits) = inl (body_hits body is.0 hits)
    body_hits (compound body operator from s) is (inr (inl hits)) = inr (inl (from_hits (answers_in w db from) from false is.1 (with_same from is.1 hits)))
    body_hits (compound body operator from s) is (inr (inr hits)) = inr (inr (selected from s [] is.1 hits))

  ordered_hits : (order : List Key) (body : Body) → IsBodyWithin count body → HitsOrdered w other order (with_schema_body count body) → HitsOrdered w db order body
  ordered_hits order (select from s) is (inl hits) = inl (from_hits (answers_in w db from) from false is (with_same from is hits))
  ordered_hits order (select from s) is (inr hits) = inr (selected from s (order_terms order) is hits)
  ordered_hits order (compound body operator from s) is hits = body_hits (compound body operator from s) is hits

  pub with_schema_hits : (query : QueryData) → IsBodyWithin count query.body → Hits w other (settled count query) → Hits w db query
  with_schema_hits query is hits = ordered_hits query.order query.body is hits
