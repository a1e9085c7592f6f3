-- The types of a query whose schema's table is the table behind the others.
use Rattle.std.proofs.Common.{◌≡◌, ◌<◌, ℕ, zero, suc, List, [], ◌∷◌, ◌++◌, length, slice_get, Some, refl, arith}
use Rattle.std.proofs.lemmas.List.Elements.{All-weaker}
use Rattle.values.specs.Database.{Database}
use Rattle.values.specs.declared.value.Ty.{Ty}
use Rattle.semantics.proofs.BodyLemmas.{AllZip-append}
use Rattle.semantics.specs.Query.{Body, From, InnerQuery, Key, KeyTerm, QueryData, Source, compound, derived, exists, joined, nothing, schema, select, table, values_of, with_inner}
use Rattle.semantics.specs.Typed.{AnswersHaveTypes, BodyHasTypes, FitTypes, FitsCatalog, FromHasTypes, HasTypes, InnerHasType, IsKeyTerm, IsTyped, SourceHasTypes, schema_types}
use Rattle.semantics_rewrites.specs.schema_sources.Settled.{settled, with_schema_body, with_schema_from, with_schema_inner, with_schema_source, types_with_schema, with_schema}
use Rattle.semantics_rewrites.specs.schema_sources.Within.{IsBodyWithin, IsFromWithin, IsInnerWithin, IsSourceWithin}

within_got : {A : Type 0} (xs : List A) (at : ℕ) (x : A) → slice_get xs at ≡ Some x → at < length xs
within_got [] at x got = absurd cc
within_got (y ∷ ys) zero x got = omega arith
within_got (y ∷ ys) (suc at) x got = let less = within_got ys at x got in omega (arith, less)

got_before : {A : Type 0} (xs : List A) (last : A) (at : ℕ) (x : A) → slice_get xs at ≡ Some x → slice_get (xs ++ last ∷ []) at ≡ Some x
got_before [] last at x got = absurd cc
got_before (y ∷ ys) last zero x got = got
got_before (y ∷ ys) last (suc at) x got = got_before ys last at x got

got_last : {A : Type 0} (xs : List A) (last : A) → slice_get (xs ++ last ∷ []) (length xs) ≡ Some last
got_last [] last = refl
got_last (y ∷ ys) last = got_last ys last

module _ (catalog : List (List Ty)) where
  abbrev count : ℕ
  count = length catalog

  abbrev more : List (List Ty)
  more = types_with_schema catalog

  mutual
    source_within : (source : Source) (types : List Ty) → SourceHasTypes catalog source types → IsSourceWithin count source
    source_within (table at width) types has = within_got catalog at types has.0
    source_within schema types has = tt
    source_within (derived body) types has = body_within body types has

    from_within : (answers : List Ty) (from : From) (types others : List Ty) → FromHasTypes catalog answers from types → AnswersHaveTypes catalog from others
        → IsFromWithin count from
    from_within answers nothing types others has inner = tt
    from_within answers (joined from kind source on) types others has inner =
        (from_within answers from has.0 others has.2 inner, source_within source has.1 has.3)
    from_within answers (with_inner from query) types others has inner =
        (from_within answers from types inner.0 has inner.2, inner_within query inner.1 inner.3)

    inner_within : (query : InnerQuery) (ty : Ty) → InnerHasType catalog query ty → IsInnerWithin count query
    inner_within (values_of body) ty has = body_within body (ty ∷ []) has
    inner_within (exists body) ty has = body_within body has.0.0 has.0.1

    pub body_within : (body : Body) (types : List Ty) → BodyHasTypes catalog body types → IsBodyWithin count body
    body_within (select from s) types has = from_within has.0 from has.1 has.0 has.3 has.2
    body_within (compound body operator from s) types has =
        (body_within body types has.0, from_within has.1.0 from has.1.1 has.1.0 has.1.3 has.1.2)

  pub typed_within : (query : QueryData) → IsTyped catalog query → IsBodyWithin count query.body
  typed_within query typed = body_within query.body typed.0 typed.1.body

  mutual
    source_still : (source : Source) (types : List Ty) → SourceHasTypes catalog source types → SourceHasTypes more (with_schema_source count source) types
    source_still (table at width) types has = (got_before catalog schema_types at types has.0, has.1)
    source_still schema types has = rw has (got_last catalog schema_types, refl)
    source_still (derived body) types has = body_still body types has

    from_still : (answers : List Ty) (from : From) (types : List Ty) → FromHasTypes catalog answers from types
        → FromHasTypes more answers (with_schema_from count from) types
    from_still answers nothing types has = has
    from_still answers (joined from kind source on) types has =
        (has.0, has.1, from_still answers from has.0 has.2, source_still source has.1 has.3, has.4, has.5)
    from_still answers (with_inner from query) types has = from_still answers from types has

    inner_still : (query : InnerQuery) (ty : Ty) → InnerHasType catalog query ty → InnerHasType more (with_schema_inner count query) ty
    inner_still (values_of body) ty has = body_still body (ty ∷ []) has
    inner_still (exists body) ty has = ((has.0.0, body_still body has.0.0 has.0.1), has.1)

    answers_still : (from : From) (answers : List Ty) → AnswersHaveTypes catalog from answers → AnswersHaveTypes more (with_schema_from count from) answers
    answers_still nothing answers has = has
    answers_still (joined from kind source on) answers has = answers_still from answers has
    answers_still (with_inner from query) answers has =
        (has.0, has.1, answers_still from has.0 has.2, inner_still query has.1 has.3, has.4)

    pub body_still : (body : Body) (types : List Ty) → BodyHasTypes catalog body types → BodyHasTypes more (with_schema_body count body) types
    body_still (select from s) types has =
        (has.0, has.1, answers_still from has.0 has.2, from_still has.0 from has.1 has.3, has.4)
    body_still (compound body operator from s) types has = (
      body_still body types has.0,
      (has.1.0, has.1.1, answers_still from has.1.0 has.1.2, from_still has.1.0 from has.1.1 has.1.3, has.1.4),
    )

  key_still : (body : Body) (types : List Ty) (by : KeyTerm) → IsKeyTerm catalog body types by → IsKeyTerm more (with_schema_body count body) types by
  key_still body types (KeyTerm.result at) is = is
  key_still (select from s) types (KeyTerm.term t) is =
      (is.0, (is.1.0, is.1.1, is.1.2, answers_still from is.1.0 is.1.3, from_still is.1.0 from is.1.1 is.1.4, is.1.5, is.1.6))
  key_still (compound body operator from s) types (KeyTerm.term t) is = is

  pub typed_still : (query : QueryData) (types : List Ty) → HasTypes catalog query types → HasTypes more (settled count query) types
  typed_still query types has = record {
    body = body_still query.body types has.body;
    order = All-weaker (λ (key : Key). IsKeyTerm catalog query.body types key.by) (λ (key : Key). IsKeyTerm more (with_schema_body count query.body) types key.by)
        (λ key is. key_still query.body types key.by is) query.order has.order;
  }

  pub fits_still : (db : Database) → FitsCatalog catalog db → FitsCatalog more (with_schema db)
  fits_still db fits = record {
    schema = fits.schema;
    tables = AllZip-append FitTypes catalog db.tables schema_types db.schema fits.tables fits.schema;
  }
