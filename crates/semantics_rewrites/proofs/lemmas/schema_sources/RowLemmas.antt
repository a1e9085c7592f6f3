-- The rows of a query whose schema's table is the table behind the others.
use Rattle.std.proofs.Common.{◌≡◌, ◌↔◌, ℕ, Bool, List, [], ◌∷◌, length, map, cond, refl, sym, ap, subst, ◌∙◌, IsPermutation}
use Rattle.std.proofs.lemmas.List.{get_or_append_left}
use Rattle.std.proofs.Math.Seq.{get_or-append_seam}
use Rattle.values.specs.Database.{Database}
use Rattle.values.specs.Datum.{Datum}
use Rattle.values.specs.Row.{Row}
use Rattle.semantics.specs.Answer.{Permits}
use Rattle.semantics.specs.Body.{Output, answer_of, answers_in, body, body_rows, from_rows, one_if_some, outputs, plain_outputs, rows_of, select_outputs, source_rows, values_over}
use Rattle.semantics.specs.Query.{Body, From, InnerQuery, Key, QueryData, Source, body_width, compound, derived, exists, from_width, joined, nothing, schema, select, source_width, table, values_of, with_inner}
use Rattle.semantics.specs.Sequence.{value_at}
use Rattle.semantics.specs.Valuation.{Valuation, with_answers}
use Rattle.semantics_rewrites.specs.schema_sources.Settled.{settled, with_schema_body, with_schema_from, with_schema_inner, with_schema_source, with_schema}
use Rattle.semantics_rewrites.specs.schema_sources.Within.{IsBodyWithin, IsFromWithin, IsInnerWithin, IsSourceWithin}

-- ---- widths

module _ (place : ℕ) where
  mutual
    pub source_wide : (source : Source) → source_width (with_schema_source place source) ≡ source_width source
    source_wide (table at width) = refl
    source_wide schema = refl
    source_wide (derived body) = body_wide body

    pub body_wide : (body : Body) → body_width (with_schema_body place body) ≡ body_width body
    body_wide (select from s) = refl
    body_wide (compound body operator from s) = body_wide body

  pub from_wide : (from : From) → from_width (with_schema_from place from) ≡ from_width from
  from_wide nothing = refl
  from_wide (joined from kind source on) = rw (from_wide from, source_wide source) refl
  from_wide (with_inner from query) = from_wide from

-- ---- rows

module _ (w : Datum) (db : Database) where
  abbrev count : ℕ
  count = length db.tables

  abbrev other : Database
  other = with_schema db

  mutual
    pub source_same : (source : Source) → IsSourceWithin count source → source_rows w other (with_schema_source count source) ≡ source_rows w db source
    source_same (table at width) is = get_or_append_left db.tables (db.schema ∷ []) [] at is
    source_same schema is = get_or-append_seam db.tables db.schema [] []
    source_same (derived body) is = body_same body is

    pub from_same : (value : Valuation) (from : From) → IsFromWithin count from → from_rows w other value (with_schema_from count from) ≡ from_rows w db value from
    from_same value nothing is = refl
    from_same value (joined from kind source on) is =
        rw (from_wide count from, source_wide count source, from_same value from is.0, source_same source is.1) refl
    from_same value (with_inner from query) is = from_same value from is.0

    pub answer_same : (query : InnerQuery) → IsInnerWithin count query → answer_of w other (with_schema_inner count query) ≡ answer_of w db query
    answer_same (values_of body) is = ap (map (λ row. value_at row 0)) (body_same body is)
    answer_same (exists body) is = ap one_if_some (body_same body is)

    pub answers_same : (from : From) → IsFromWithin count from → answers_in w other (with_schema_from count from) ≡ answers_in w db from
    answers_same nothing is = refl
    answers_same (joined from kind source on) is = answers_same from is.0
    answers_same (with_inner from query) is = rw (answers_same from is.0, answer_same query is.1) refl

    pub body_same : (of : Body) → IsBodyWithin count of → body_rows w other (with_schema_body count of) ≡ body_rows w db of
    body_same (select from s) is =
        rw (answers_same from is, from_same (with_answers w (answers_in w db from)) from is) refl
    body_same (compound before operator from s) is =
        rw (body_same before is.0, answers_same from is.1, from_same (with_answers w (answers_in w db from)) from is.1) refl

  pub values_same : (from : From) → IsFromWithin count from → values_over w other (with_schema_from count from) ≡ values_over w db from
  values_same from is = ap (with_answers w) (answers_same from is)

  pub rows_same : (from : From) → IsFromWithin count from → rows_of w other (with_schema_from count from) ≡ rows_of w db from
  rows_same from is = rw (answers_same from is) (from_same (values_over w db from) from is)

  either : {A : Type 0} (b : Bool) (x x' y y' : A) → x ≡ x' → y ≡ y' → cond b x y ≡ cond b x' y'
  either b x x' y y' p q = ap (λ z. cond b z y) p ∙ ap (cond b x') q

  plain_same : (order : List Key) (from : From) (rows others : List Row) → IsFromWithin count from → rows ≡ others
      → plain_outputs (values_over w other (with_schema_from count from)) order rows ≡ plain_outputs (values_over w db from) order others
  plain_same order from rows others is same =
      ap (λ (v : Valuation). plain_outputs v order rows) (values_same from is) ∙ ap (plain_outputs (values_over w db from) order) same

  pub outputs_same : (order : List Key) (of : Body) → IsBodyWithin count of → outputs w other order (with_schema_body count of) ≡ outputs w db order of
  outputs_same order (select from s) is =
      either s.distinct _ _ _ _ (plain_same order from _ _ is (body_same (select from s) is))
      (ap (λ (v : Valuation). select_outputs v w order s (rows_of w other (with_schema_from count from))) (values_same from is)
      ∙ ap (select_outputs (values_over w db from) w order s) (rows_same from is))
  outputs_same order (compound before operator from s) is = plain_same order from _ _ is.1 (body_same (compound before operator from s) is)

  pub same_body : (query : QueryData) → IsBodyWithin count query.body → body w other (settled count query) ≡ body w db query
  same_body query is = outputs_same query.order query.body is

  module _ (query : QueryData) (is : IsBodyWithin count query.body) (rows : List Row) where
    permits_settled : Permits w other (settled count query) rows → Permits w db query rows
    permits_settled p = record {
      ordered = p.ordered;
      same = subst (λ (os : List Output). IsPermutation os p.ordered) (same_body query is) p.same;
      ascends = p.ascends;
      shown = p.shown;
    }

    with_schema_permits : Permits w db query rows → Permits w other (settled count query) rows
    with_schema_permits p = record {
      ordered = p.ordered;
      same = subst (λ (os : List Output). IsPermutation os p.ordered) (sym (same_body query is)) p.same;
      ascends = p.ascends;
      shown = p.shown;
    }

    pub same_answers : Permits w other (settled count query) rows ↔ Permits w db query rows
    same_answers = (permits_settled, with_schema_permits)
