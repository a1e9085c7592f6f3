-- The values of the rows of a typed query have its types.
use Rattle.std.proofs.Common.{◌≡◌, ℕ, zero, suc, ◌+◌, ◌-◌, nat_le, nat_lt, slice_get, slice_index_or, MatchOption, subst, Bool, true, false, cond, not, ℤ, List, [], ◌∷◌, ◌++◌, map, length, All, Option, Some, None, refl, sym, arith}
use Rattle.std.specs.List.{AllZip}
use Rattle.std.specs.Option.{IfSome}
use Rattle.std.specs.Ordering.{is_lt, flip_args}
use Rattle.std.specs.declared.cmp.Ordering.{Ordering}
use Rattle.std.proofs.lemmas.List.{length-append}
use Rattle.std.proofs.lemmas.List.Elements.{All-cons, All-filter, All-map, All-nil, All-tail, All-weaker}
use Rattle.std.proofs.lemmas.List.Sorted.{All-permutation, IsPermutation-map, IsPermutation-reverse}
use Rattle.values.specs.Database.{Database}
use Rattle.values.specs.Datum.{Datum, null, int, text, blob}
use Rattle.values.specs.Order.{datum_cmp}
use Rattle.values.specs.Row.{Row}
use Rattle.values.specs.declared.value.Ty.{Ty}
use Rattle.values.specs.declared.value.Ty.TheVariants.{Int}
use Rattle.expr.specs.operations.Operations.{is_null, settle}
use Rattle.expr.specs.Term.{Term}
use Rattle.expr.specs.Types.{HasType, IsOfType}
use Rattle.expr.specs.Filled.{filled}
use Rattle.expr.proofs.FilledLemmas.{filled_has_type}
use Rattle.expr.proofs.TypeLemmas.{ColumnsFit, Good, columns_fit, eval_fits, good_settle, value_or_null}
use Rattle.semantics.specs.Query.{Aggregate, AggregateFunction, Body, From, Grouping, InnerQuery, QueryData, Select, Source, Window, WindowCall, WindowFunction, body_width, compound, derived, exists, from_width, joined, nothing, schema, select, source_width, table, values_of, with_inner}
use Rattle.semantics.specs.Sequence.{sorted, value_at}
use Rattle.semantics.specs.Valuation.{Valuation, holds_on, kept, meets, term_values, with_answers}
use Rattle.semantics.specs.Joins.{nulls}
use Rattle.semantics.specs.Groups.{Group, aggregate_result, aggregate_value, group_keys, group_of, group_row, group_rows, grouped, groups, measure, taken_values}
use Rattle.semantics.specs.Times.{same_row, times}
use Rattle.semantics.specs.Windows.{call_result, call_value, frame_rows, numbered, numbered_after, partition_of, row_at, sequence, sequence_cmp, window_result}
use Rattle.semantics.specs.Body.{Output, answer_of, answers_in, body, body_rows, from_rows, one_if_some, results, rows_of, select_rows, source_rows, values_over}
use Rattle.semantics.specs.Answer.{IsStandIn, Permits, slice}
use Rattle.semantics.specs.Typed.{AggregateGives, AggregateHasType, AnswersHaveTypes, BodyHasTypes, CallHasType, ComputedHasTypes, FitTypes, FitsCatalog, FromHasTypes, FunctionHasType, GroupedHasTypes, GroupingHasTypes, HasTypes, InnerHasType, SelectHasTypes, SourceHasTypes}
use Rattle.semantics.proofs.AnswerLemmas.{limited-map, skipped-map}
use Rattle.semantics.proofs.BodyLemmas.{AllZip-append}
use Rattle.semantics.proofs.ElementLemmas.{All-combined, All-distinct, All-everywhere, All-join, All-limited, All-once, All-skipped, AllZip-both, length_all_zip}
use Rattle.semantics.proofs.OrderLemmas.{ascending-same}
use Rattle.semantics.proofs.ScanLemmas.{outputs-rows}

abbrev IsRowOf : List Ty → Row → Type 0
IsRowOf types = AllZip IsOfType types

abbrev AnswerHasType : Ty → List Datum → Type 0
AnswerHasType of vs = All (IsOfType of) vs

-- ---- values at places

value_at_typed : (ty : Ty) (vs : List Datum) (n : ℕ) → All (IsOfType ty) vs → IsOfType ty (value_at vs n)
value_at_typed ty [] n all = tt
value_at_typed ty (v ∷ vs) zero all = all 0 v (omega arith)
value_at_typed ty (v ∷ vs) (suc n) all = value_at_typed ty vs n (All-tail (IsOfType ty) v vs all)

nothing_fits : (types : List Ty) → ColumnsFit types []
nothing_fits types i ty e = tt

-- a row of a list, or the empty row
row_at_fits : (types : List Ty) (rows : List Row) (at : ℕ) → All (IsRowOf types) rows → ColumnsFit types (row_at rows at)
row_at_fits types [] at all = nothing_fits types
row_at_fits types (row ∷ rows) zero all = columns_fit types row (all 0 row (omega arith))
row_at_fits types (row ∷ rows) (suc at) all = row_at_fits types rows at (All-tail (IsRowOf types) row rows all)

nulls_typed : (types : List Ty) → IsRowOf types (nulls (length types))
nulls_typed [] = tt
nulls_typed (ty ∷ types) = (tt, nulls_typed types)

nulls_of_width : (types : List Ty) (width : ℕ) → width ≡ length types → IsRowOf types (nulls width)
nulls_of_width types width is = subst (λ n. IsRowOf types (nulls n)) (sym is) (nulls_typed types)

All-sorted : {X : Type 0} (P : X → Type 0) (cmp : X → X → Ordering) (xs : List X) → All P xs → All P (sorted cmp xs)
All-sorted P cmp xs all = All-permutation P xs (sorted cmp xs) (ascending-same (λ x y. is_lt (cmp x y)) xs) all

-- ---- one SELECT: its expressions have the types that they are said to have

module _ (w : Datum) (stand_in : IsOfType Int w) (answers : List Ty) (value : Valuation)
    (typed : (columns : List Ty) (row : Row) (t : Term) (ty : Ty) → ColumnsFit columns row → HasType columns answers t ty → IsOfType ty (value t row)) where
  terms_typed : (columns : List Ty) (terms : List Term) (types : List Ty) (row : Row) → AllZip (HasType columns answers) terms types → ColumnsFit columns row
      → IsRowOf types (term_values value terms row)
  terms_typed columns [] [] row all fits = tt
  terms_typed columns [] (ty ∷ types) row all fits = absurd all
  terms_typed columns (t ∷ terms) [] row all fits = absurd all
  terms_typed columns (t ∷ terms) (ty ∷ types) row all fits = (typed columns row t ty fits all.0, terms_typed columns terms types row all.1 fits)

  -- ---- aggregates and groups

  settled : (z : ℤ) → Good Int (settle (Some w) z)
  settled z = good_settle (Some w) stand_in z

  measured : (f : AggregateFunction) (columns : List Ty) (argument : Term) (ty : Ty) (vs : List Datum) → AggregateGives answers columns f argument ty
      → ((of : Ty) → HasType columns answers argument of → All (IsOfType of) vs) → IfSome (measure (Some w) f vs) (IsOfType ty)
  measured AggregateFunction.count columns argument ty vs gives all = rw gives.1 (settled _)
  measured AggregateFunction.sum columns argument ty [] gives all = tt
  measured AggregateFunction.sum columns argument ty (v ∷ vs) gives all = rw gives.1 (settled _)
  measured AggregateFunction.min columns argument ty vs gives all = value_at_typed ty _ 0 (All-sorted (IsOfType ty) datum_cmp vs (all ty gives))
  measured AggregateFunction.max columns argument ty vs gives all = value_at_typed ty _ 0 (All-sorted (IsOfType ty) (flip_args datum_cmp) vs (all ty gives))

  arguments_typed : (columns : List Ty) (t : Term) (of : Ty) (rows : List Row) → All (ColumnsFit columns) rows → HasType columns answers t of
      → All (IsOfType of) (map (value t) rows)
  arguments_typed columns t of rows fits has =
      All-map (IsOfType of) (value t) rows (All-weaker (ColumnsFit columns) (λ row. IsOfType of (value t row)) (λ row fit. typed columns row t of fit has) rows fits)

  aggregate_typed : (columns : List Ty) (a : Aggregate) (ty : Ty) (rows : List Row) → All (ColumnsFit columns) rows → AggregateHasType answers columns a ty
      → IfSome (aggregate_result value (Some w) a rows) (IsOfType ty)
  aggregate_typed columns a ty rows fits has =
      measured a.function columns a.argument ty (taken_values value a rows) has
      (λ of is. All-filter (λ v. not (is_null v)) (IsOfType of) (map (value a.argument) rows) (arguments_typed columns a.argument of rows fits is))

  all_fit : (columns : List Ty) (rows : List Row) → All (IsRowOf columns) rows → All (ColumnsFit columns) rows
  all_fit columns rows all = All-weaker (IsRowOf columns) (ColumnsFit columns) (λ row is. columns_fit columns row is) rows all

  aggregates_typed : (columns : List Ty) (aggregates : List Aggregate) (types : List Ty) (rows : List Row) → AllZip (AggregateHasType answers columns) aggregates types
      → All (IsRowOf columns) rows → IsRowOf types (map (aggregate_value value w rows) aggregates)
  aggregates_typed columns [] [] rows all fits = tt
  aggregates_typed columns [] (ty ∷ types) rows all fits = absurd all
  aggregates_typed columns (a ∷ aggregates) [] rows all fits = absurd all
  aggregates_typed columns (a ∷ aggregates) (ty ∷ types) rows all fits = (
    value_or_null ty (aggregate_result value (Some w) a rows) (aggregate_typed columns a ty rows (all_fit columns rows fits) all.0),
    aggregates_typed columns aggregates types rows all.1 fits,
  )

  keys_typed : (columns : List Ty) (by : List Term) (keys : List Ty) (rows : List Row) → AllZip (HasType columns answers) by keys → All (IsRowOf columns) rows
      → All (IsRowOf keys) (group_keys value by rows)
  keys_typed columns [] [] rows has all = All-cons (IsRowOf []) [] [] tt (All-nil _)
  keys_typed columns [] (key ∷ keys) rows has all = absurd has
  keys_typed columns (t ∷ by) keys rows has all =
      All-once (IsRowOf keys) _ (All-map (IsRowOf keys) (term_values value (t ∷ by)) rows
      (All-weaker (IsRowOf columns) (λ row. IsRowOf keys (term_values value (t ∷ by) row))
      (λ row is. terms_typed columns (t ∷ by) keys row has (columns_fit columns row is)) rows all))

  group_rows_typed : (columns : List Ty) (g : Grouping) (types : List Ty) (rows : List Row) → GroupingHasTypes answers columns g types → All (IsRowOf columns) rows
      → All (IsRowOf types) (group_rows value w g rows)
  group_rows_typed columns g types rows has all =
      rw has.types_are
      (All-map (IsRowOf (has.keys ++ has.values)) (group_row value w g.aggregates) (groups value g.by rows)
      (All-map (λ (group : Group). IsRowOf (has.keys ++ has.values) (group_row value w g.aggregates group)) (group_of value g.by rows) (group_keys value g.by rows)
      (All-weaker (IsRowOf has.keys) (λ key. IsRowOf (has.keys ++ has.values) (group_row value w g.aggregates (group_of value g.by rows key)))
      (λ key is. AllZip-both IsOfType has.keys has.values key _ is
      (aggregates_typed columns g.aggregates has.values (group_of value g.by rows key).members has.aggregates
      (All-filter (λ row. same_row key (term_values value g.by row)) (IsRowOf columns) rows all)))
      (group_keys value g.by rows) (keys_typed columns g.by has.keys rows has.by all))))

  grouped_typed : (columns : List Ty) (grouping : Option Grouping) (types : List Ty) (rows : List Row) → GroupedHasTypes answers columns grouping types
      → All (IsRowOf columns) rows → All (IsRowOf types) (grouped value w grouping rows)
  grouped_typed columns None types rows has all = rw has all
  grouped_typed columns (Some g) types rows has all = All-filter (holds_on value g.having) (IsRowOf types) _ (group_rows_typed columns g types rows has all)

  -- ---- windows

  frame_fits : (columns : List Ty) (window : Window) (rows : List Row) (here : ℕ) → All (IsRowOf columns) rows → All (ColumnsFit columns) (frame_rows value window rows here)
  frame_fits columns window rows here all =
      All-map (ColumnsFit columns) (row_at rows) _ (All-everywhere (λ at. ColumnsFit columns (row_at rows at)) (λ at. row_at_fits columns rows at all) _)

  either_typed : (ty : Ty) (b : Bool) (x y : Datum) → IsOfType ty x → IsOfType ty y → IsOfType ty (cond b x y)
  either_typed ty true x y p q = p
  either_typed ty false x y p q = q

  in_frame_typed : (columns : List Ty) (window : Window) (t : Term) (ty : Ty) (rows : List Row) (here : ℕ) → All (IsRowOf columns) rows → HasType columns answers t ty
      → All (IsOfType ty) (map (value t) (frame_rows value window rows here))
  in_frame_typed columns window t ty rows here all has = arguments_typed columns t ty _ (frame_fits columns window rows here all) has

  function_typed : (columns : List Ty) (window : Window) (f : WindowFunction) (ty : Ty) (rows : List Row) (here : ℕ) → FunctionHasType answers columns f ty
      → All (IsRowOf columns) rows → IfSome (window_result value (Some w) window f rows here) (IsOfType ty)
  function_typed columns window (WindowFunction.aggregate a) ty rows here has all =
      aggregate_typed columns a ty (frame_rows value window rows here) (frame_fits columns window rows here all) has
  function_typed columns window WindowFunction.row_number ty rows here has all = rw has (settled _)
  function_typed columns window WindowFunction.rank ty rows here has all = rw has (settled _)
  function_typed columns window WindowFunction.dense_rank ty rows here has all = rw has (settled _)
  function_typed columns window (WindowFunction.ntile n) ty rows here has all = rw has.1 (settled _)
  function_typed columns window (WindowFunction.lag x n otherwise) ty rows here has all =
      either_typed ty (nat_le n here) _ _ (typed columns _ x ty (row_at_fits columns rows (here - n) all) has.0)
      (typed columns _ otherwise ty (row_at_fits columns rows here all) has.1)
  function_typed columns window (WindowFunction.lead x n otherwise) ty rows here has all =
      either_typed ty (nat_lt (here + n) (length rows)) _ _ (typed columns _ x ty (row_at_fits columns rows (here + n) all) has.0)
      (typed columns _ otherwise ty (row_at_fits columns rows here all) has.1)
  function_typed columns window (WindowFunction.first_value x) ty rows here has all = value_at_typed ty _ 0 (in_frame_typed columns window x ty rows here all has)
  function_typed columns window (WindowFunction.last_value x) ty rows here has all =
      value_at_typed ty _ 0 (All-permutation (IsOfType ty) _ _ (IsPermutation-reverse _) (in_frame_typed columns window x ty rows here all has))
  function_typed columns window (WindowFunction.nth_value x n) ty rows here has all = value_at_typed ty _ (n - 1) (in_frame_typed columns window x ty rows here all has.0)

  sequence_typed : (columns : List Ty) (window : Window) (rows : List Row) (row : Row) → All (IsRowOf columns) rows
      → All (IsRowOf columns) (sequence value window.order (partition_of value window rows row))
  sequence_typed columns window rows row all =
      All-sorted (IsRowOf columns) (sequence_cmp value window.order) _
      (All-filter (λ other. same_row (term_values value window.partition row) (term_values value window.partition other)) (IsRowOf columns) rows all)

  calls_typed : (columns : List Ty) (calls : List WindowCall) (types : List Ty) (rows : List Row) (r : Row × ℕ) → AllZip (CallHasType answers columns) calls types
      → All (IsRowOf columns) rows → IsRowOf types (map (call_value value w rows r) calls)
  calls_typed columns [] [] rows r has all = tt
  calls_typed columns [] (ty ∷ types) rows r has all = absurd has
  calls_typed columns (call ∷ calls) [] rows r has all = absurd has
  calls_typed columns (call ∷ calls) (ty ∷ types) rows r has all = (
    value_or_null ty (call_result value (Some w) call rows r)
        (function_typed columns call.window call.function ty _ _ has.0.1 (sequence_typed columns call.window rows r.0 all)),
    calls_typed columns calls types rows r has.1 all,
  )

  numbered_typed : (columns : List Ty) (before rows : List Row) → All (IsRowOf columns) rows → All (λ (r : Row × ℕ). IsRowOf columns r.0) (numbered_after before rows)
  numbered_typed columns before [] all = All-nil _
  numbered_typed columns before (row ∷ rows) all =
      All-cons (λ (r : Row × ℕ). IsRowOf columns r.0) (row, times row before) _ (all 0 row (omega arith))
      (numbered_typed columns (row ∷ before) rows (All-tail (IsRowOf columns) row rows all))

  -- ---- the SELECT

  computed_typed : (row : List Ty) (s : Select) (types : List Ty) (rows : List Row) → ComputedHasTypes answers row s types → All (IsRowOf row) rows
      → All (IsRowOf types) (select_rows value w s rows)
  computed_typed row s types rows has all =
      let inputs = grouped value w s.grouping (kept value s.condition rows) in
      let input_typed : All (IsRowOf has.inputs) inputs = grouped_typed row s.grouping has.inputs _ has.grouped (All-filter (holds_on value s.condition) (IsRowOf row) rows all) in
      rw has.types_are
      (All-map (IsRowOf (has.inputs ++ has.values)) (λ (r : Row × ℕ). r.0 ++ map (call_value value w inputs r) s.windows) (numbered inputs)
      (All-weaker (λ (r : Row × ℕ). IsRowOf has.inputs r.0) (λ (r : Row × ℕ). IsRowOf (has.inputs ++ has.values) (r.0 ++ map (call_value value w inputs r) s.windows))
      (λ r is. AllZip-both IsOfType has.inputs has.values r.0 _ is (calls_typed has.inputs s.windows has.values inputs r has.windows input_typed))
      (numbered inputs) (numbered_typed has.inputs [] inputs input_typed)))

  pub results_typed : (row : List Ty) (s : Select) (types : List Ty) (rows : List Row) → SelectHasTypes answers row s types → All (IsRowOf row) rows
      → All (IsRowOf types) (results value w s rows)
  results_typed row s types rows has all =
      All-distinct (IsRowOf types) s.distinct _
      (All-map (IsRowOf types) (term_values value s.columns) (select_rows value w s rows)
      (All-weaker (IsRowOf has.0) (λ r. IsRowOf types (term_values value s.columns r))
      (λ r is. terms_typed has.0 s.columns types r has.2 (columns_fit has.0 r is)) _ (computed_typed row s has.0 rows has.1 all)))

-- ---- queries

fit_at : (catalog : List (List Ty)) (tables : List (List Row)) (at : ℕ) (types : List Ty) → AllZip FitTypes catalog tables → slice_get catalog at ≡ Some types
    → FitTypes types (slice_index_or tables at [])
fit_at [] [] at types fit e = cc
fit_at [] (rows ∷ tables) at types fit e = absurd fit
fit_at (first ∷ catalog) [] at types fit e = absurd fit
fit_at (first ∷ catalog) (rows ∷ tables) zero types fit e = subst (λ o. MatchOption o ⊥ (λ t. FitTypes t rows)) e fit.0
fit_at (first ∷ catalog) (rows ∷ tables) (suc at) types fit e = fit_at catalog tables at types fit.1 e

pub body_width-is : (catalog : List (List Ty)) (body : Body) (types : List Ty) → BodyHasTypes catalog body types → body_width body ≡ length types
body_width-is catalog (select from s) types has = length_all_zip (HasType has.4.0 has.0) s.columns types has.4.2
body_width-is catalog (compound body operator from s) types has = body_width-is catalog body types has.0

one_typed : (rows : List Row) → All (IsOfType Int) (one_if_some rows)
one_typed [] = All-nil (IsOfType Int)
one_typed (row ∷ rows) = All-cons (IsOfType Int) _ [] refl (All-nil (IsOfType Int))

stand_in_typed : (w : Datum) → IsStandIn w → IsOfType Int w
stand_in_typed null is = tt
stand_in_typed (int z) is = refl
stand_in_typed (text s) is = absurd is
stand_in_typed (blob b) is = absurd is

module _ (w : Datum) (stand_in : IsOfType Int w) (db : Database) (catalog : List (List Ty)) (fits : FitsCatalog catalog db) where
  answered_typed : (types : List Ty) (answers : List (List Datum)) → AllZip AnswerHasType types answers
      → (columns : List Ty) (row : Row) (t : Term) (ty : Ty) → ColumnsFit columns row → HasType columns types t ty → IsOfType ty (with_answers w answers t row)
  answered_typed types answers all columns row t ty fit has =
      eval_fits w columns [] row (filled answers t) ty stand_in fit (filled_has_type columns types [] answers t ty all has)

  source_width-is : (source : Source) (types : List Ty) → SourceHasTypes catalog source types → source_width source ≡ length types
  source_width-is (table at width) types has = has.1
  source_width-is schema types has = rw has refl
  source_width-is (derived body) types has = body_width-is catalog body types has

  pub from_width-is : (answers : List Ty) (from : From) (types : List Ty) → FromHasTypes catalog answers from types → from_width from ≡ length types
  from_width-is answers nothing types has = rw has refl
  from_width-is answers (joined from kind source on) types has =
      rw (has.4, length-append has.0 has.1, from_width-is answers from has.0 has.2, source_width-is source has.1 has.3) refl
  from_width-is answers (with_inner from query) types has = from_width-is answers from types has

  selected_typed : (from : From) (s : Select) (types answers row : List Ty) → AllZip AnswerHasType answers (answers_in w db from)
      → FitTypes row (rows_of w db from) → SelectHasTypes answers row s types → FitTypes types (results (values_over w db from) w s (rows_of w db from))
  selected_typed from s types answers row all rows has =
      results_typed w stand_in answers (values_over w db from) (answered_typed answers (answers_in w db from) all) row s types (rows_of w db from) has rows

  mutual
    pub source_typed : (source : Source) (types : List Ty) → SourceHasTypes catalog source types → FitTypes types (source_rows w db source)
    source_typed (table at width) types has = fit_at catalog db.tables at types fits.tables has.0
    source_typed schema types has = rw has fits.schema
    source_typed (derived body) types has = body_typed body types has

    pub from_typed : (value : Valuation) (answers : List Ty) (from : From) (types : List Ty) → FromHasTypes catalog answers from types
        → FitTypes types (from_rows w db value from)
    from_typed value answers nothing types has = rw has (All-cons (IsRowOf []) [] [] tt (All-nil _))
    from_typed value answers (joined from kind source on) types has =
        rw has.4
        (All-join (IsRowOf has.0) (IsRowOf has.1) (IsRowOf (has.0 ++ has.1)) (λ l r p q. AllZip-both IsOfType has.0 has.1 l r p q)
        kind (from_width from) (source_width source) (meets value on) _ _
        (nulls_of_width has.0 _ (from_width-is answers from has.0 has.2)) (nulls_of_width has.1 _ (source_width-is source has.1 has.3))
        (from_typed value answers from has.0 has.2) (source_typed source has.1 has.3))
    from_typed value answers (with_inner from query) types has = from_typed value answers from types has

    inner_typed : (query : InnerQuery) (ty : Ty) → InnerHasType catalog query ty → AnswerHasType ty (answer_of w db query)
    inner_typed (values_of body) ty has =
        All-map (IsOfType ty) (λ row. value_at row 0) _
        (All-weaker (IsRowOf (ty ∷ [])) (λ row. IsOfType ty (value_at row 0)) (λ row is. columns_fit (ty ∷ []) row is 0 ty refl) _ (body_typed body (ty ∷ []) has))
    inner_typed (exists body) ty has = rw has.1 (one_typed (body_rows w db body))

    pub answers_typed : (from : From) (types : List Ty) → AnswersHaveTypes catalog from types → AllZip AnswerHasType types (answers_in w db from)
    answers_typed nothing types has = rw has tt
    answers_typed (joined from kind source on) types has = answers_typed from types has
    answers_typed (with_inner from query) types has =
        rw has.4 (AllZip-append AnswerHasType has.0 _ has.1 _ (answers_typed from has.0 has.2) (inner_typed query has.1 has.3))

    pub body_typed : (body : Body) (types : List Ty) → BodyHasTypes catalog body types → FitTypes types (body_rows w db body)
    body_typed (select from s) types has =
        selected_typed from s types has.0 has.1 (answers_typed from has.0 has.2) (from_typed (values_over w db from) has.0 from has.1 has.3) has.4
    body_typed (compound body operator from s) types has =
        All-combined (IsRowOf types) operator _ _ (body_typed body types has.0)
        (selected_typed from s types has.1.0 has.1.1 (answers_typed from has.1.0 has.1.2)
        (from_typed (values_over w db from) has.1.0 from has.1.1 has.1.3) has.1.4)

-- what holds of each row of the body holds of each row that is permitted
pub Permits-all : (P : Row → Type 0) (w : Datum) (db : Database) (query : QueryData) (rows : List Row) → All P (body_rows w db query.body) → Permits w db query rows → All P rows
Permits-all P w db query rows all p =
    let same = IsPermutation-map (λ (o : Output). o.row) (body w db query) p.ordered p.same in
    let from_body : All P (map (λ o. o.row) (body w db query)) = rw (outputs-rows w db query.order query.body) all in
    let ordered : All P (map (λ o. o.row) p.ordered) = All-permutation P _ _ same from_body in
    let sliced : All P (slice query (map (λ o. o.row) p.ordered)) = All-limited P query.limit _ (All-skipped P query.offset _ ordered) in
    rw p.shown (subst (All P) (slice-map query p.ordered) sliced)
  where
    slice-map : (query : QueryData) (ordered : List Output) → slice query (map (λ o. o.row) ordered) ≡ map (λ o. o.row) (slice query ordered)
    slice-map query ordered = rw (skipped-map (λ (o : Output). o.row) query.offset ordered) (limited-map (λ (o : Output). o.row) query.limit _)

pub Permits-typed : (w : Datum) (db : Database) (catalog : List (List Ty)) (query : QueryData) (types : List Ty) (rows : List Row) → IsStandIn w → FitsCatalog catalog db
    → HasTypes catalog query types → Permits w db query rows → FitTypes types rows
Permits-typed w db catalog query types rows stand_in fits has permitted =
    Permits-all (IsRowOf types) w db query rows (body_typed w (stand_in_typed w stand_in) db catalog fits query.body types has.body) permitted
