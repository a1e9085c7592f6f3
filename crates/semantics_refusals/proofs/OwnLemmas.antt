-- The types that are computed are a query's own.
use Rattle.std.proofs.Common.{◌≡◌, List, Option, Result, Ok, subst}
use Rattle.std.specs.List.{AllZip}
use Rattle.values.specs.declared.fault.Fault.{Fault}
use Rattle.values.specs.declared.value.Ty.{Ty}
use Rattle.expr.specs.Term.{Term}
use Rattle.expr.specs.Types.{FitsType}
use Rattle.semantics.specs.Query.{Aggregate, Body, From, Grouping, Select, Source}
use Rattle.semantics.specs.Typed.{AggregateHasType, AnswersHaveTypes, BodyHasTypes, ComputedHasTypes, FromHasTypes, GroupedHasTypes, IsTermOf, SourceHasTypes}
use Rattle.semantics_names.specs.Outcome.{each}
use Rattle.semantics_names.specs.Types.{aggregate_type, answer_types, body_types, computed_types, from_types, grouped_types, select_types, source_types, term_type}
use Rattle.semantics_names.proofs.FoundLemmas.{aggregate_gives, answers_give, body_gives, computed_gives, each-zip-gives, fits_itself, followed-gives, from_gives, grouping_gives, source_gives, terms_give}
use Rattle.semantics_names.proofs.OneLemmas.{one_ok}
use Rattle.semantics_names.proofs.OutcomeLemmas.{each-zip}
use Rattle.semantics_names.proofs.TypeLemmas.{aggregate_is, answers_are, body_is, computed_is, from_is, grouping_is, source_is, term_is}
use Rattle.semantics_refusals.specs.Mismatches.{AreOwn}

-- the types that are handed out are its own: it has them, and they may stand for all that it has
own : (Has : List Ty → Type 0) (r : Result (List Ty) Fault) → ((types : List Ty) → r ≡ Ok types → Has types)
    → ((other : List Ty) → Has other → (found : List Ty) × (r ≡ Ok found) × AllZip FitsType found other)
    → (types : List Ty) → r ≡ Ok types → AreOwn Has types
own Has r is gives types e = record {
  are = is types e;
  least = λ other h. let (found, found_so, fit) = gives other h in subst (λ types. AllZip FitsType types other) (one_ok found types r found_so e) fit;
}

module _ (row other answers others : List Ty) (fit : AllZip FitsType other row) (replies : AllZip FitsType others answers) where
  pub values_give : (aggregates : List Aggregate) (values : List Ty) → AllZip (AggregateHasType answers row) aggregates values
      → (found : List Ty) × (each (aggregate_type others other) aggregates ≡ Ok found) × AllZip FitsType found values
  values_give =
      each-zip-gives (aggregate_type others other) (AggregateHasType answers row) FitsType
      (λ a ty h. aggregate_gives row other answers others fit replies a.function a.argument ty h)

module _ (answers row : List Ty) where
  pub own_keys : (by : List Term) (keys : List Ty) → each (term_type answers row) by ≡ Ok keys → AreOwn (AllZip (IsTermOf answers row) by) keys
  own_keys by =
      own (AllZip (IsTermOf answers row) by) (each (term_type answers row) by)
      (each-zip (term_type answers row) (IsTermOf answers row) (term_is answers row) by)
      (terms_give row row answers answers (fits_itself row) (fits_itself answers) by)

  pub own_values : (aggregates : List Aggregate) (values : List Ty) → each (aggregate_type answers row) aggregates ≡ Ok values
      → AreOwn (AllZip (AggregateHasType answers row) aggregates) values
  own_values aggregates =
      own (AllZip (AggregateHasType answers row) aggregates) (each (aggregate_type answers row) aggregates)
      (each-zip (aggregate_type answers row) (AggregateHasType answers row)
      (λ a ty is. aggregate_is answers row a.function a.argument ty is) aggregates)
      (values_give row row answers answers (fits_itself row) (fits_itself answers) aggregates)

  pub own_inputs : (g : Option Grouping) (inputs : List Ty) → grouped_types answers row g ≡ Ok inputs
      → AreOwn (GroupedHasTypes answers row g) inputs
  own_inputs g =
      own (GroupedHasTypes answers row g) (grouped_types answers row g) (grouping_is answers row g)
      (grouping_gives row row answers answers (fits_itself row) (fits_itself answers) g)

  pub own_computed : (s : Select) (computed : List Ty) → computed_types answers row s ≡ Ok computed
      → AreOwn (ComputedHasTypes answers row s) computed
  own_computed s =
      own (ComputedHasTypes answers row s) (computed_types answers row s) (computed_is answers row s)
      (computed_gives row row answers answers (fits_itself row) (fits_itself answers) s)

module _ (tables : List (List Ty)) where
  pub own_answers : (from : From) (answers : List Ty) → answer_types tables from ≡ Ok answers → AreOwn (AnswersHaveTypes tables from) answers
  own_answers from = own (AnswersHaveTypes tables from) (answer_types tables from) (answers_are tables from) (answers_give tables from)

  pub own_row : (answers : List Ty) (from : From) (row : List Ty) → from_types tables answers from ≡ Ok row
      → AreOwn (FromHasTypes tables answers from) row
  own_row answers from =
      own (FromHasTypes tables answers from) (from_types tables answers from) (from_is tables answers from)
      (from_gives tables answers answers (fits_itself answers) from)

  pub own_source : (source : Source) (types : List Ty) → source_types tables source ≡ Ok types → AreOwn (SourceHasTypes tables source) types
  own_source source = own (SourceHasTypes tables source) (source_types tables source) (source_is tables source) (source_gives tables source)

  pub own_body : (body : Body) (types : List Ty) → body_types tables body ≡ Ok types → AreOwn (BodyHasTypes tables body) types
  own_body body = own (BodyHasTypes tables body) (body_types tables body) (body_is tables body) (body_gives tables body)

  pub own_select : (from : From) (s : Select) (answers row types : List Ty) → answer_types tables from ≡ Ok answers
      → from_types tables answers from ≡ Ok row → select_types answers row s ≡ Ok types → AreOwn (BodyHasTypes tables (Body.select from s)) types
  own_select from s answers row types e d f =
      own_body (Body.select from s) types
      (followed-gives (answer_types tables from) _ answers types e (followed-gives (from_types tables answers from) _ row types d f))
