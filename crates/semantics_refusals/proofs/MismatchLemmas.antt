-- A SELECT that is refused by its types has an expression that is of another type than its place wants.
use Rattle.std.proofs.Common.{◌≡◌, ◌⊎◌, inl, inr, ◌+◌, List, ◌++◌, length, nat_lt, Option, Some, None, Ok, Err, refl, sym, subst, arith, length-append}
use Rattle.values.specs.declared.fault.Fault.TheVariants.{BadFrame, TypeMismatch}
use Rattle.values.specs.declared.value.Ty.{Ty}
use Rattle.values.specs.declared.value.Ty.TheVariants.{Int}
use Rattle.expr.specs.Term.{Term}
use Rattle.expr.specs.TermType.{one_of, type_of_term, wanted}
use Rattle.semantics.specs.Query.{AggregateFunction, Grouping, Select, SortTerm, WindowCall, WindowFunction}
use Rattle.semantics_names.specs.Outcome.{also, checked, each, followed}
use Rattle.semantics_names.specs.Types.{aggregate_type, both_type, call_type, computed_types, condition_type, function_type, grouped_types, is_frame, measure_type, select_types, term_type, window_types}
use Rattle.semantics_refusals.specs.Clashes.{AreAtOdds, HasClash, Misfits}
use Rattle.semantics_refusals.specs.Mismatches.{CallMisfits, FunctionMisfits, MeasureMisfits, SelectMisfits}
use Rattle.semantics_refusals.proofs.ClashLemmas.{IsWithin, clash_of, misfits_of, odds_of}
use Rattle.semantics_refusals.proofs.HandsLemmas.{IfAny}
use Rattle.semantics_refusals.proofs.LengthLemmas.{computed_length, inputs_length}
use Rattle.semantics_refusals.proofs.ErrLemmas.{also-err, checked-err, each-err, followed-err, found-err}
use Rattle.semantics_refusals.proofs.OwnLemmas.{own_computed, own_inputs, own_keys, own_values}
use Rattle.semantics_refusals.proofs.PartLemmas.{among}
use Rattle.semantics_refusals.proofs.TypeLemmas.{each_length}
use Rattle.semantics_refusals.proofs.WithinLemmas.{FunctionIsWithin, IsWithinCall, IsWithinGrouping, IsWithinSelect, input_width}

-- ---- one SELECT

module _ (answers row : List Ty) where
  clash_err : (t : Term) → IsWithin (length answers) (length row) t → term_type answers row t ≡ Err TypeMismatch → HasClash answers row t
  clash_err t w e = clash_of answers row t w (found-err TypeMismatch (type_of_term row answers t) TypeMismatch e)

  misfit_err : (t : Term) → IsWithin (length answers) (length row) t → condition_type answers row t ≡ Err TypeMismatch
      → Misfits answers row Int t
  misfit_err t w e = misfits_of answers row t w (found-err TypeMismatch (wanted Int (type_of_term row answers t)) TypeMismatch e)

  odds_err : (x y : Term) → IsWithin (length answers) (length row) x → IsWithin (length answers) (length row) y
      → both_type answers row x y ≡ Err TypeMismatch → AreAtOdds answers row x y
  odds_err x y v w e =
      odds_of answers row x y v w (found-err TypeMismatch (one_of (type_of_term row answers x) (type_of_term row answers y)) TypeMismatch e)

  measure_err : (f : AggregateFunction) (t : Term) → IsWithin (length answers) (length row) t → measure_type answers row f t ≡ Err TypeMismatch
      → MeasureMisfits answers row f t
  measure_err AggregateFunction.count t w e = clash_err t w (also-err (λ of. Int) (term_type answers row t) TypeMismatch e)
  measure_err AggregateFunction.sum t w e = misfit_err t w e
  measure_err AggregateFunction.min t w e = clash_err t w e
  measure_err AggregateFunction.max t w e = clash_err t w e

  function_err : (f : WindowFunction) → FunctionIsWithin (length answers) (length row) f → function_type answers row f ≡ Err TypeMismatch
      → FunctionMisfits answers row f
  function_err (WindowFunction.aggregate a) w e = measure_err a.function a.argument w e
  function_err WindowFunction.row_number w e = absurd cc
  function_err WindowFunction.rank w e = absurd cc
  function_err WindowFunction.dense_rank w e = absurd cc
  function_err (WindowFunction.ntile n) w e = by (checked-err (nat_lt 0 n) BadFrame (Ok Int) TypeMismatch e)
    where
      by : (BadFrame ≡ TypeMismatch) ⊎ (Ok Int ≡ Err TypeMismatch) → ⊥
      by (inl d) = absurd cc
      by (inr d) = absurd cc
  function_err (WindowFunction.lag x n otherwise) w e = odds_err x otherwise w.0 w.1 e
  function_err (WindowFunction.lead x n otherwise) w e = odds_err x otherwise w.0 w.1 e
  function_err (WindowFunction.first_value x) w e = clash_err x w e
  function_err (WindowFunction.last_value x) w e = clash_err x w e
  function_err (WindowFunction.nth_value x n) w e = by (checked-err (nat_lt 0 n) BadFrame (term_type answers row x) TypeMismatch e)
    where
      by : (BadFrame ≡ TypeMismatch) ⊎ (term_type answers row x ≡ Err TypeMismatch) → HasClash answers row x
      by (inl d) = absurd cc
      by (inr d) = clash_err x w d

  call_err : (c : WindowCall) → IsWithinCall (length answers) (length row) c → call_type answers row c ≡ Err TypeMismatch
      → CallMisfits answers row c
  call_err c w e = by (followed-err (window_types answers row c.window) _ TypeMismatch e)
    where
      framed : (types : List Ty) → (BadFrame ≡ TypeMismatch) ⊎ (Ok types ≡ Err TypeMismatch) → ⊥
      framed types (inl d) = absurd cc
      framed types (inr d) = absurd cc

      in_order : (each (λ (s : SortTerm). term_type answers row s.term) c.window.order ≡ Err TypeMismatch)
          ⊎ ((types : List Ty) × (each (λ (s : SortTerm). term_type answers row s.term) c.window.order ≡ Ok types)
          × (checked (is_frame answers row c.window.order c.window.frame) BadFrame (Ok types) ≡ Err TypeMismatch)) → CallMisfits answers row c
      in_order (inl d) =
          let (s, there, is) = each-err (λ (s : SortTerm). term_type answers row s.term) c.window.order TypeMismatch d in
          CallMisfits.order s there (clash_err s.term (among w.window.order there) is)
      in_order (inr (types, are, d)) =
          absurd (framed types (checked-err (is_frame answers row c.window.order c.window.frame) BadFrame (Ok types) TypeMismatch d))

      in_window : window_types answers row c.window ≡ Err TypeMismatch → CallMisfits answers row c
      in_window d = parts (followed-err (each (term_type answers row) c.window.partition) _ TypeMismatch d)
        where
          parts : (each (term_type answers row) c.window.partition ≡ Err TypeMismatch)
              ⊎ ((types : List Ty) × (each (term_type answers row) c.window.partition ≡ Ok types)
              × (followed (each (λ (s : SortTerm). term_type answers row s.term) c.window.order) (λ types.
              checked (is_frame answers row c.window.order c.window.frame) BadFrame (Ok types)) ≡ Err TypeMismatch)) → CallMisfits answers row c
          parts (inl f) =
              let (t, there, is) = each-err (term_type answers row) c.window.partition TypeMismatch f in
              CallMisfits.partition t there (clash_err t (among w.window.partition there) is)
          parts (inr (types, are, f)) =
              in_order (followed-err (each (λ (s : SortTerm). term_type answers row s.term) c.window.order) _ TypeMismatch f)

      by : (window_types answers row c.window ≡ Err TypeMismatch)
          ⊎ ((types : List Ty) × (window_types answers row c.window ≡ Ok types) × (function_type answers row c.function ≡ Err TypeMismatch))
          → CallMisfits answers row c
      by (inl d) = in_window d
      by (inr (types, are, d)) = CallMisfits.function (function_err c.function w.function d)

-- ---- groups

module _ (answers row : List Ty) where
  grouped_err : (s : Select) (g : Option Grouping) → s.grouping ≡ g → IfAny (IsWithinGrouping (length answers) (length row)) g
      → grouped_types answers row g ≡ Err TypeMismatch → SelectMisfits answers row s
  grouped_err s None same w e = absurd cc
  grouped_err s (Some g) same w e = by (followed-err (each (term_type answers row) g.by) _ TypeMismatch e)
    where
      having : (keys values : List Ty) → each (term_type answers row) g.by ≡ Ok keys → each (aggregate_type answers row) g.aggregates ≡ Ok values
          → condition_type answers (keys ++ values) g.having ≡ Err TypeMismatch → SelectMisfits answers row s
      having keys values are of d =
          let first : length keys ≡ length g.by = each_length (term_type answers row) g.by keys are in
          let second : length values ≡ length g.aggregates = each_length (aggregate_type answers row) g.aggregates values of in
          let total : length (keys ++ values) ≡ length keys + length values = length-append keys values in
          let size : length g.by + length g.aggregates ≡ length (keys ++ values) = omega (arith, first, second, total) in
          SelectMisfits.having g keys values same (own_keys answers row g.by keys are) (own_values answers row g.aggregates values of)
          (misfits_of answers (keys ++ values) g.having (subst (λ n. IsWithin (length answers) n g.having) size w.is.having)
          (found-err TypeMismatch (wanted Int (type_of_term (keys ++ values) answers g.having)) TypeMismatch d))

      aggregates : (keys : List Ty) → each (term_type answers row) g.by ≡ Ok keys
          → (each (aggregate_type answers row) g.aggregates ≡ Err TypeMismatch)
          ⊎ ((values : List Ty) × (each (aggregate_type answers row) g.aggregates ≡ Ok values)
          × (also (λ (_ : Ty). keys ++ values) (condition_type answers (keys ++ values) g.having) ≡ Err TypeMismatch)) → SelectMisfits answers row s
      aggregates keys are (inl d) =
          let (a, there, is) = each-err (aggregate_type answers row) g.aggregates TypeMismatch d in
          SelectMisfits.aggregate g a same there (measure_err answers row a.function a.argument (among w.is.aggregates there) is)
      aggregates keys are (inr (values, of, d)) =
          having keys values are of (also-err (λ (_ : Ty). keys ++ values) (condition_type answers (keys ++ values) g.having) TypeMismatch d)

      by : (each (term_type answers row) g.by ≡ Err TypeMismatch)
          ⊎ ((keys : List Ty) × (each (term_type answers row) g.by ≡ Ok keys)
          × (followed (each (aggregate_type answers row) g.aggregates) (λ values.
          also (λ (_ : Ty). keys ++ values) (condition_type answers (keys ++ values) g.having)) ≡ Err TypeMismatch)) → SelectMisfits answers row s
      by (inl d) =
          let (t, there, is) = each-err (term_type answers row) g.by TypeMismatch d in
          SelectMisfits.group g t same there (clash_err answers row t (among w.is.by there) is)
      by (inr (keys, are, d)) = aggregates keys are (followed-err (each (aggregate_type answers row) g.aggregates) _ TypeMismatch d)

  -- ---- what result columns and ORDER BY speak of

  pub computed_err : (s : Select) → IsWithinSelect (length answers) (length row) s → computed_types answers row s ≡ Err TypeMismatch
      → SelectMisfits answers row s
  computed_err s w e = by (followed-err (condition_type answers row s.condition) _ TypeMismatch e)
    where
      windows : (inputs : List Ty) → grouped_types answers row s.grouping ≡ Ok inputs
          → each (call_type answers inputs) s.windows ≡ Err TypeMismatch
          → SelectMisfits answers row s
      windows inputs are d =
          let (c, there, is) = each-err (call_type answers inputs) s.windows TypeMismatch d in
          let size : input_width (length row) s.grouping ≡ length inputs = sym (inputs_length answers row s.grouping inputs are) in
          SelectMisfits.window inputs c (own_inputs answers row s.grouping inputs are) there
          (call_err answers inputs c (subst (λ n. IsWithinCall (length answers) n c) size (among w.windows there)) is)

      groups : (grouped_types answers row s.grouping ≡ Err TypeMismatch)
          ⊎ ((inputs : List Ty) × (grouped_types answers row s.grouping ≡ Ok inputs)
          × (also (λ (calls : List Ty). inputs ++ calls) (each (call_type answers inputs) s.windows) ≡ Err TypeMismatch))
          → SelectMisfits answers row s
      groups (inl d) = grouped_err s s.grouping refl w.grouping d
      groups (inr (inputs, are, d)) =
          windows inputs are (also-err (λ (calls : List Ty). inputs ++ calls) (each (call_type answers inputs) s.windows) TypeMismatch d)

      by : (condition_type answers row s.condition ≡ Err TypeMismatch)
          ⊎ ((ty : Ty) × (condition_type answers row s.condition ≡ Ok ty)
          × (followed (grouped_types answers row s.grouping) (λ inputs.
          also (λ (calls : List Ty). inputs ++ calls) (each (call_type answers inputs) s.windows)) ≡ Err TypeMismatch)) → SelectMisfits answers row s
      by (inl d) = SelectMisfits.condition (misfit_err answers row s.condition w.condition d)
      by (inr (ty, is, d)) = groups (followed-err (grouped_types answers row s.grouping) _ TypeMismatch d)

  -- a term over the row that they speak of
  pub term_err : (s : Select) (computed : List Ty) → computed_types answers row s ≡ Ok computed → (t : Term)
      → IsWithin (length answers) (input_width (length row) s.grouping + length s.windows) t → term_type answers computed t ≡ Err TypeMismatch
      → HasClash answers computed t
  term_err s computed are t w e =
      clash_err answers computed t (subst (λ n. IsWithin (length answers) n t) (sym (computed_length answers row s computed are)) w) e

  pub select_err : (s : Select) → IsWithinSelect (length answers) (length row) s → select_types answers row s ≡ Err TypeMismatch
      → SelectMisfits answers row s
  select_err s w e = by (followed-err (computed_types answers row s) _ TypeMismatch e)
    where
      by : (computed_types answers row s ≡ Err TypeMismatch)
          ⊎ ((computed : List Ty) × (computed_types answers row s ≡ Ok computed) × (each (term_type answers computed) s.columns ≡ Err TypeMismatch))
          → SelectMisfits answers row s
      by (inl d) = computed_err s w d
      by (inr (computed, are, d)) =
          let (t, there, is) = each-err (term_type answers computed) s.columns TypeMismatch d in
          SelectMisfits.result computed t (own_computed answers row s computed are) there (term_err s computed are t (among w.columns there) is)
