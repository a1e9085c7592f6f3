-- A query in an order is one SELECT, or SELECTs that are joined.
use Rattle.std.proofs.Common.{◌≡◌, Bool, true, false, not, List, None, Result, Ok, Err, refl, ap, ◌∙◌}
use Rattle.values.specs.declared.fault.Fault.{Fault}
use Rattle.values.specs.declared.fault.Fault.TheVariants.{WrongPlace}
use Rattle.values.specs.declared.value.Ty.{Ty}
use Rattle.expr.specs.Term.{Term}
use Rattle.resolver_types.proofs.lemmas.body_types.BodyLemmas.{over_row, select_is}
use Rattle.resolver_types.specs.body_types.Rows.{RowData, column_types, computed_row}
use Rattle.semantics.specs.Query.{Body, From, Key, KeyTerm, Operator, QueryData, Select}
use Rattle.semantics_names.specs.Outcome.{also, checked, each, followed}
use Rattle.semantics_names.specs.Types as spec
use Rattle.semantics_names.specs.Types.{key_type, term_type}
use Rattle.resolver.specs.query_types.Keys.{key_over, rows_behind}
use Rattle.resolver_types.specs.term_types.Passed.{passed}
use Rattle.resolver.specs.query_types.Ordered.{ordered_compound, ordered_single, ordered_types}

-- a key is refused
pub keys_refused : {A B : Type 0} (r : Result A Fault) (b : B) (fault : Fault) → Err fault ≡ passed r → also (λ done. b) r ≡ Err fault
keys_refused (Ok a) b fault e = absurd cc
keys_refused (Err other) b fault e = cc

module _ (tables : List (List Ty)) where
  module _ (from : From) (s : Select) where
    -- a key of one SELECT
    module _ (r : RowData) (is : computed_row tables from s ≡ Ok r) (types : List Ty) where
      term_is : (t : Term) (distinct : Bool)
          → checked (not distinct) WrongPlace (followed (computed_row tables from s) (λ r. term_type r.answers r.columns t))
          ≡ key_over (rows_behind distinct r) types (KeyTerm.term t)
      term_is t true = refl
      term_is t false = ap (λ o. followed o (λ r. term_type r.answers r.columns t)) is

      key_is : (k : KeyTerm) → key_type tables (Body.select from s) types k ≡ key_over (rows_behind s.distinct r) types k
      key_is (KeyTerm.result at) = refl
      key_is (KeyTerm.term t) =
          ap (checked (not s.distinct) WrongPlace) (over_row tables from s (λ r. term_type r.answers r.columns t)) ∙ term_is t s.distinct

    module _ (order : List Key) where
      abbrev in_order : List Ty → Result (List Ty) Fault
      in_order types = also (λ _. types) (each (λ k. key_type tables (Body.select from s) types k.by) order)

      over_row_is : (o : Result RowData Fault) → computed_row tables from s ≡ o
          → followed (followed o (column_types s)) in_order
          ≡ followed o (λ r. followed (column_types s r) (λ types. also (λ _. types) (each (λ k. key_over (rows_behind s.distinct r) types k.by) order)))
      over_row_is (Err fault) is = refl
      over_row_is (Ok r) is = ap (followed (column_types s r)) (λ i types. also (λ _. types) (each (λ k. key_is r is types k.by i) order))

      pub single_is : ordered_types tables (Body.select from s) order ≡ ordered_single tables from s order
      single_is = ap (λ r. followed r in_order) (select_is tables from s) ∙ over_row_is (computed_row tables from s) refl

    -- over the rows and the columns of one SELECT, its keys alone are left
    pub keys_left : (order : List Key) (r : RowData) (types : List Ty) → computed_row tables from s ≡ Ok r → column_types s r ≡ Ok types
        → ordered_single tables from s order ≡ also (λ done. types) (each (λ k. key_over (rows_behind s.distinct r) types k.by) order)
    keys_left order r types is columns =
        ap (λ o. followed o (λ r. followed (column_types s r) (λ types.
        also (λ done. types) (each (λ k. key_over (rows_behind s.distinct r) types k.by) order)))) is
        ∙ ap (λ o. followed o (λ types. also (λ done. types) (each (λ k. key_over (rows_behind s.distinct r) types k.by) order))) columns

  -- a key of SELECTs that are joined
  joined_key_is : (left : Body) (operator : Operator) (from : From) (s : Select) (types : List Ty) (k : KeyTerm)
      → key_type tables (Body.compound left operator from s) types k ≡ key_over None types k
  joined_key_is left operator from s types (KeyTerm.result at) = refl
  joined_key_is left operator from s types (KeyTerm.term t) = refl

  pub compound_is : (left : Body) (operator : Operator) (from : From) (s : Select) (order : List Key)
      → ordered_types tables (Body.compound left operator from s) order ≡ ordered_compound tables (Body.compound left operator from s) order
  compound_is left operator from s order =
      ap (followed (spec.body_types tables (Body.compound left operator from s)))
      (λ i types. also (λ _. types) (each (λ k. joined_key_is left operator from s types k.by i) order))

  -- LIMIT and OFFSET have no part in it
  pub query_is : (query : QueryData) (body : Body) (order : List Key) → query.body ≡ body → query.order ≡ order
      → spec.query_types tables query ≡ ordered_types tables body order
  query_is query body order same_body same_order =
      ap (λ b. ordered_types tables b query.order) same_body ∙ ap (ordered_types tables body) same_order
