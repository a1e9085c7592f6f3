-- A statement in which an expression is of another type than its place wants is no query.
use Rattle.std.proofs.Common.{◌≡◌, ℕ, zero, suc, List, [], ◌∷◌, ◌++◌, Some, Ok, All, slice_get, refl, sym, subst, ◌∙◌}
use Rattle.std.specs.List.{AllZip}
use Rattle.std.proofs.lemmas.List.Elements.{All-contains}
use Rattle.values.specs.declared.value.Ty.{Ty}
use Rattle.values.specs.declared.value.Ty.TheVariants.{Int}
use Rattle.expr.specs.Types.{FitsType}
use Rattle.semantics.specs.Query.{Body, From, InnerQuery, Key, KeyTerm, Select, Source}
use Rattle.semantics.specs.Typed.{AnswersHaveTypes, BodyHasTypes, FromHasTypes, InnerHasType, IsKeyTerm, IsTyped, SelectHasTypes, SourceHasTypes}
use Rattle.semantics_names.specs.Laws.{IsTypedBody, TypedIsTaken}
use Rattle.semantics_names.specs.Statement.{Named}
use Rattle.semantics_names.specs.Typed.{column_types}
use Rattle.semantics_names.proofs.FoundLemmas.{fits-append, fits_itself, term_fits}
use Rattle.semantics_refusals.specs.Mismatches.{AnswersMisfit, AreMismatched, BodyMisfits, FromMisfits, HasMismatch, InnerMisfits, KeyMisfits, MistypedIsRefused, SingleMisfits, SourceMisfits}
use Rattle.semantics_refusals.proofs.MistypedLemmas.{computed_fit, select_refuted}
use Rattle.semantics_refusals.proofs.OddsLemmas.{clash_refuted, misfit_refuted}

-- ---- columns of two types

fit_at : (first types : List Ty) (at : ℕ) (ty : Ty) → AllZip FitsType first types → slice_get first at ≡ Some ty
    → (other : Ty) × (slice_get types at ≡ Some other) × FitsType ty other
fit_at [] types at ty fit e = absurd cc
fit_at (f ∷ first) [] at ty fit e = absurd fit
fit_at (f ∷ first) (t ∷ types) zero ty fit e = let same : f ≡ ty = cc in (t, refl, subst (λ f. FitsType f t) same fit.0)
fit_at (f ∷ first) (t ∷ types) (suc at) ty fit e = fit_at first types at ty fit.1 e

apart_refuted : (first second types : List Ty) → AreMismatched first second → AllZip FitsType first types → AllZip FitsType second types → ⊥
apart_refuted first second types a f g =
    let (one, is, fits) = fit_at first types a.at a.one f a.there in
    let (other, of, suits) = fit_at second types a.at a.other g a.beside in
    let both : Some other ≡ Some one = sym of ∙ is in
    let same : other ≡ one = cc in
    a.apart one fits (subst (λ ty. FitsType a.other ty) same suits)

module _ (tables : List (List Ty)) where
  -- what is typed with some answers is so with those that may stand in their places
  pub from_over : (answers given : List Ty) → AllZip FitsType given answers → (from : From) (row : List Ty) → FromHasTypes tables answers from row
      → FromHasTypes tables given from row
  from_over answers given replies From.nothing row h = h
  from_over answers given replies (From.joined from kind source on) row (l, r, left, right, e, condition) =
      (l, r, from_over answers given replies from l left, right, e, term_fits row row answers given (fits_itself row) replies on Int condition)
  from_over answers given replies (From.with_inner from query) row h = from_over answers given replies from row h

  mutual
    source_refuted : {source : Source} → SourceMisfits tables source → (types : List Ty) → SourceHasTypes tables source types → ⊥
    source_refuted (SourceMisfits.derived m) types h = body_refuted m types h

    from_refuted : {given : List Ty} {from : From} → FromMisfits tables given from → (answers row : List Ty) → AllZip FitsType given answers
        → FromHasTypes tables answers from row → ⊥
    from_refuted (FromMisfits.earlier m) answers row replies (l, r, left, right, e, condition) = from_refuted m answers l replies left
    from_refuted (FromMisfits.source m) answers row replies (l, r, left, right, e, condition) = source_refuted m r right
    from_refuted (FromMisfits.on {answers = given} {from = from} {on = on} first second own other misfit) answers row replies
        (l, r, left, right, e, condition) =
        let fits : AllZip FitsType (first ++ second) row =
        subst (AllZip FitsType (first ++ second)) (sym e)
        (fits-append first second l r (own.least l (from_over answers given replies from l left)) (other.least r right)) in
        misfit_refuted given (first ++ second) Int on misfit (term_fits row (first ++ second) answers given fits replies on Int condition)
    from_refuted (FromMisfits.beside m) answers row replies h = from_refuted m answers row replies h

    inner_refuted : {query : InnerQuery} → InnerMisfits tables query → (ty : Ty) → InnerHasType tables query ty → ⊥
    inner_refuted (InnerMisfits.members m) ty h = body_refuted m (ty ∷ []) h
    inner_refuted (InnerMisfits.tested m) ty ((types, h), e) = body_refuted m types h

    answers_refuted : {from : From} → AnswersMisfit tables from → (answers : List Ty) → AnswersHaveTypes tables from answers → ⊥
    answers_refuted (AnswersMisfit.joined m) answers h = answers_refuted m answers h
    answers_refuted (AnswersMisfit.other m) answers (before, ty, earlier, inner, e) = answers_refuted m before earlier
    answers_refuted (AnswersMisfit.inner m) answers (before, ty, earlier, inner, e) = inner_refuted m ty inner

    single_refuted : {from : From} {s : Select} → SingleMisfits tables from s → (answers row types : List Ty)
        → AnswersHaveTypes tables from answers
        → FromHasTypes tables answers from row → SelectHasTypes answers row s types → ⊥
    single_refuted (SingleMisfits.answers m) answers row types h k select = answers_refuted m answers h
    single_refuted (SingleMisfits.sources given own m) answers row types h k select = from_refuted m answers row (own.least answers h) k
    single_refuted (SingleMisfits.select {from = from} {s = s} given general own other m) answers row types h k select =
        let replies : AllZip FitsType given answers = own.least answers h in
        select_refuted row general answers given (other.least row (from_over answers given replies from row k)) replies s types m select

    body_refuted : {body : Body} → BodyMisfits tables body → (types : List Ty) → BodyHasTypes tables body types → ⊥
    body_refuted (BodyMisfits.alone m) types (answers, row, h, k, select) = single_refuted m answers row types h k select
    body_refuted (BodyMisfits.before m) types (left, right) = body_refuted m types left
    body_refuted (BodyMisfits.last m) types (left, (answers, row, h, k, select)) = single_refuted m answers row types h k select
    body_refuted (BodyMisfits.columns first second own other apart) types (left, right) =
        apart_refuted first second types apart (own.least types left) (other.least types right)

  key_refuted : {body : Body} {key : KeyTerm} → KeyMisfits tables body key → (types : List Ty) → IsKeyTerm tables body types key → ⊥
  key_refuted (KeyMisfits.term {from = from} {s = s} {t = t} given general own_computed own other all clash) types
      (plain, (answers, row, computed, h, k, are, (ty, is))) =
      let replies : AllZip FitsType given answers = own.least answers h in
      let fit : AllZip FitsType general row = other.least row (from_over answers given replies from row k) in
      clash_refuted given own_computed t clash
      (ty, term_fits computed own_computed answers given (computed_fit row general answers given fit replies s own_computed computed all are) replies t ty is)

  named_refuted : (n : Named) → HasMismatch tables n → IsTyped tables n.query → All (IsTypedBody tables) n.beside → ⊥
  named_refuted n (HasMismatch.query m) (types, h) all = body_refuted m types h.body
  named_refuted n (HasMismatch.order key there m) (types, h) all =
      key_refuted m types (All-contains (λ (key : Key). IsKeyTerm tables n.query.body types key.by) n.query.order key h.order there)
  named_refuted n (HasMismatch.beside body there m) typed all =
      let (types, h) = All-contains (IsTypedBody tables) n.beside body all there in body_refuted m types h

pub mistyped_is_refused : TypedIsTaken → MistypedIsRefused
mistyped_is_refused taken tables tree n (m, names, misfits) is =
    let (named_so, typed, all) = (taken tables tree n).0 is in
    let both : Ok m ≡ Ok n = sym names ∙ named_so in
    let same : m ≡ n = cc in
    named_refuted (column_types tables) n (subst (HasMismatch (column_types tables)) same misfits) typed all
