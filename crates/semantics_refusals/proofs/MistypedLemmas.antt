-- A SELECT in which an expression is of another type than its place wants has no types.
use Rattle.std.proofs.Common.{◌≡◌, List, [], ◌∷◌, ◌++◌, Option, Some, Result, Ok, All, Contains, sym, subst}
use Rattle.std.specs.List.{AllZip}
use Rattle.std.proofs.lemmas.List.Elements.{All-cons, All-contains, All-nil}
use Rattle.values.specs.declared.fault.Fault.{Fault}
use Rattle.values.specs.declared.value.Ty.{Ty}
use Rattle.values.specs.declared.value.Ty.TheVariants.{Int}
use Rattle.expr.specs.Term.{Term}
use Rattle.expr.specs.Types.{FitsType}
use Rattle.semantics.specs.Query.{AggregateFunction, Grouping, Select, SortTerm, WindowCall, WindowFunction}
use Rattle.semantics.specs.Typed.{AggregateGives, AggregateHasType, CallHasType, ComputedHasTypes, FunctionHasType, GroupedHasTypes, GroupingHasTypes, IsTerm, IsTermOf, SelectHasTypes}
use Rattle.semantics_names.specs.Outcome.{each}
use Rattle.semantics_names.specs.Types.{aggregate_type, computed_types, grouped_types, term_type}
use Rattle.semantics_names.proofs.FoundLemmas.{computed_gives, fits-append, fits_then, grouping_gives, term_fits, terms_give}
use Rattle.semantics_refusals.specs.Clashes.{Misfits}
use Rattle.semantics_refusals.specs.Mismatches.{AreOwn, CallMisfits, FunctionMisfits, MeasureMisfits, SelectMisfits}
use Rattle.semantics_refusals.proofs.OddsLemmas.{clash_refuted, misfit_refuted, odds_refuted}
use Rattle.semantics_refusals.proofs.OwnLemmas.{own_computed, own_inputs, own_keys, own_values, values_give}

-- what is related to something that stands in a list
pub related : {A B : Type 0} (R : A → B → Type 0) (xs : List A) (ys : List B) (x : A) → AllZip R xs ys → Contains xs x → (y : B) × R x y
related {A = A} {B = B} R xs ys x zip there = All-contains (λ x. (y : B) × R x y) xs x (each_of xs ys zip) there
  where
    each_of : (xs : List A) (ys : List B) → AllZip R xs ys → All (λ x. (y : B) × R x y) xs
    each_of [] ys zip = All-nil (λ x. (y : B) × R x y)
    each_of (x ∷ xs) [] zip = absurd zip
    each_of (x ∷ xs) (y ∷ ys) zip = All-cons (λ x. (y : B) × R x y) x xs (y, zip.0) (each_of xs ys zip.1)

-- types that may stand for others may stand for what those may
all_fit_then : (first second types : List Ty) → AllZip FitsType first second → AllZip FitsType second types → AllZip FitsType first types
all_fit_then [] [] [] f g = tt
all_fit_then [] [] (ty ∷ types) f g = absurd g
all_fit_then [] (b ∷ second) types f g = absurd f
all_fit_then (a ∷ first) [] types f g = absurd f
all_fit_then (a ∷ first) (b ∷ second) [] f g = absurd g
all_fit_then (a ∷ first) (b ∷ second) (ty ∷ types) f g = (fits_then a b ty f.0 g.0, all_fit_then first second types f.1 g.1)

-- types of their own may stand for what the types that are handed out may stand for
own_fit : (Has : List Ty → Type 0) (r : Result (List Ty) Fault) → ((types : List Ty) → r ≡ Ok types → AreOwn Has types)
    → (own types : List Ty) → AreOwn Has own → (found : List Ty) × (r ≡ Ok found) × AllZip FitsType found types
    → AllZip FitsType own types
own_fit Has r are own types o (found, is, fit) = all_fit_then own found types (o.least found (are found is).are) fit

-- what is typed over answers and a row is so over those that may stand in their places
module _ (row general answers given : List Ty) (fit : AllZip FitsType general row) (replies : AllZip FitsType given answers) where
  typed_over : (t : Term) (ty : Ty) → IsTermOf answers row t ty → IsTermOf given general t ty
  typed_over = term_fits row general answers given fit replies

  some_over : (t : Term) → IsTerm answers row t → IsTerm given general t
  some_over t (ty, h) = (ty, typed_over t ty h)

  -- ---- what has no type

  measure_refuted : (f : AggregateFunction) (t : Term) (ty : Ty) → MeasureMisfits given general f t → AggregateGives answers row f t ty → ⊥
  measure_refuted AggregateFunction.count t ty clash (h, e) = clash_refuted given general t clash (some_over t h)
  measure_refuted AggregateFunction.sum t ty misfit (h, e) = misfit_refuted given general Int t misfit (typed_over t Int h)
  measure_refuted AggregateFunction.min t ty clash h = clash_refuted given general t clash (ty, typed_over t ty h)
  measure_refuted AggregateFunction.max t ty clash h = clash_refuted given general t clash (ty, typed_over t ty h)

  function_refuted : (f : WindowFunction) (ty : Ty) → FunctionMisfits given general f → FunctionHasType answers row f ty → ⊥
  function_refuted (WindowFunction.aggregate a) ty m h = measure_refuted a.function a.argument ty m h
  function_refuted WindowFunction.row_number ty m h = m
  function_refuted WindowFunction.rank ty m h = m
  function_refuted WindowFunction.dense_rank ty m h = m
  function_refuted (WindowFunction.ntile n) ty m h = m
  function_refuted (WindowFunction.lag x n otherwise) ty m h =
      odds_refuted given general x otherwise m ty (typed_over x ty h.0) (typed_over otherwise ty h.1)
  function_refuted (WindowFunction.lead x n otherwise) ty m h =
      odds_refuted given general x otherwise m ty (typed_over x ty h.0) (typed_over otherwise ty h.1)
  function_refuted (WindowFunction.first_value x) ty m h = clash_refuted given general x m (ty, typed_over x ty h)
  function_refuted (WindowFunction.last_value x) ty m h = clash_refuted given general x m (ty, typed_over x ty h)
  function_refuted (WindowFunction.nth_value x n) ty m h = clash_refuted given general x m (ty, typed_over x ty h.0)

  call_refuted : (c : WindowCall) (ty : Ty) → CallMisfits given general c → CallHasType answers row c ty → ⊥
  call_refuted c ty (CallMisfits.partition t there clash) (over, h) =
      clash_refuted given general t clash (some_over t (All-contains (IsTerm answers row) c.window.partition t over.partition there))
  call_refuted c ty (CallMisfits.order s there clash) (over, h) =
      clash_refuted given general s.term clash
      (some_over s.term (All-contains (λ (s : SortTerm). IsTerm answers row s.term) c.window.order s over.order there))
  call_refuted c ty (CallMisfits.function m) (over, h) = function_refuted c.function ty m h

-- ---- groups, and what windows give

module _ (row general answers given : List Ty) (fit : AllZip FitsType general row) (replies : AllZip FitsType given answers) where
  -- the types that a SELECT's rows have of their own may stand for those that they have over another row
  pub inputs_fit : (g : Option Grouping) (own inputs : List Ty) → AreOwn (GroupedHasTypes given general g) own → GroupedHasTypes answers row g inputs
      → AllZip FitsType own inputs
  inputs_fit g own inputs o h =
      own_fit (GroupedHasTypes given general g) (grouped_types given general g) (own_inputs given general g) own inputs o
      (grouping_gives row general answers given fit replies g inputs h)

  pub computed_fit : (s : Select) (own computed : List Ty) → AreOwn (ComputedHasTypes given general s) own
      → ComputedHasTypes answers row s computed
      → AllZip FitsType own computed
  computed_fit s own computed o h =
      own_fit (ComputedHasTypes given general s) (computed_types given general s) (own_computed given general s) own computed o
      (computed_gives row general answers given fit replies s computed h)

  -- ---- the SELECT

  at_grouping : (s : Select) (g : Grouping) (inputs : List Ty) → s.grouping ≡ Some g → GroupedHasTypes answers row s.grouping inputs
      → GroupingHasTypes answers row g inputs
  at_grouping s g inputs e h = subst (λ g. GroupedHasTypes answers row g inputs) e h

  having_refuted : (g : Grouping) (keys values inputs : List Ty) → AreOwn (AllZip (IsTermOf given general) g.by) keys
      → AreOwn (AllZip (AggregateHasType given general) g.aggregates) values → Misfits given (keys ++ values) Int g.having
      → GroupingHasTypes answers row g inputs → ⊥
  having_refuted g keys values inputs in_keys in_values misfit h =
      let fits : AllZip FitsType (keys ++ values) inputs =
      subst (AllZip FitsType (keys ++ values)) (sym h.types_are)
      (fits-append keys values h.keys h.values
      (own_fit (AllZip (IsTermOf given general) g.by) (each (term_type given general) g.by) (own_keys given general g.by) keys h.keys in_keys
      (terms_give row general answers given fit replies g.by h.keys h.by))
      (own_fit (AllZip (AggregateHasType given general) g.aggregates) (each (aggregate_type given general) g.aggregates)
      (own_values given general g.aggregates) values h.values in_values
      (values_give row general answers given fit replies g.aggregates h.values h.aggregates))) in
      misfit_refuted given (keys ++ values) Int g.having misfit
      (term_fits inputs (keys ++ values) answers given fits replies g.having Int h.having)

  pub select_refuted : (s : Select) (types : List Ty) → SelectMisfits given general s → SelectHasTypes answers row s types → ⊥
  select_refuted s types (SelectMisfits.condition misfit) (computed, h, columns) =
      misfit_refuted given general Int s.condition misfit (typed_over row general answers given fit replies s.condition Int h.condition)
  select_refuted s types (SelectMisfits.group g t e there clash) (computed, h, columns) =
      let grouping = at_grouping s g h.inputs e h.grouped in
      let (ty, is) = related (IsTermOf answers row) g.by grouping.keys t grouping.by there in
      clash_refuted given general t clash (ty, typed_over row general answers given fit replies t ty is)
  select_refuted s types (SelectMisfits.aggregate g a e there misfit) (computed, h, columns) =
      let grouping = at_grouping s g h.inputs e h.grouped in
      let (ty, is) = related (AggregateHasType answers row) g.aggregates grouping.values a grouping.aggregates there in
      measure_refuted row general answers given fit replies a.function a.argument ty misfit is
  select_refuted s types (SelectMisfits.having g keys values e in_keys in_values misfit) (computed, h, columns) =
      having_refuted g keys values h.inputs in_keys in_values misfit (at_grouping s g h.inputs e h.grouped)
  select_refuted s types (SelectMisfits.window inputs c own there misfit) (computed, h, columns) =
      let (ty, is) = related (CallHasType answers h.inputs) s.windows h.values c h.windows there in
      call_refuted h.inputs inputs answers given (inputs_fit s.grouping inputs h.inputs own h.grouped) replies c ty misfit is
  select_refuted s types (SelectMisfits.result own t are there clash) (computed, h, columns) =
      let (ty, is) = related (IsTermOf answers computed) s.columns types t columns there in
      clash_refuted given own t clash (ty, term_fits computed own answers given (computed_fit s own computed are h) replies t ty is)
