-- A query that is refused because of a frame has a window whose frame can't be.
use Rattle.std.proofs.Common.{◌≡◌, ◌⊎◌, inl, inr, ◌≤◌, ◌&&◌, ◌||◌, Bool, true, false, if◌then◌else◌, ℕ, suc, List, [], ◌∷◌, ◌++◌, length, nat_le, nat_lt, not, true≢false, Option, Some, None, Result, Ok, Err, slice_get, ap, refl, sym, subst, ◌∙◌, arith}
use Rattle.std.proofs.lemmas.Bool.{and_cases, leb-false, ltb-false}
use Rattle.values.specs.declared.fault.Fault.{Fault}
use Rattle.values.specs.declared.fault.Fault.TheVariants.{BadFrame, ColumnCount, TypeMismatch, WrongPlace}
use Rattle.values.specs.declared.value.Ty.{Ty}
use Rattle.values.specs.declared.value.Ty.TheVariants.{Int}
use Rattle.expr.specs.Term.{Term}
use Rattle.expr.specs.TermType.{Finds, one_of, one_type, type_of_term, wanted}
use Rattle.expr.proofs.TermTypeLemmas.{types_are_found}
use Rattle.semantics.specs.Query.{AggregateFunction, Body, Edge, Frame, FrameUnit, From, Grouping, InnerQuery, Key, KeyTerm, Select, SortTerm, Source, WindowCall, WindowFunction}
use Rattle.semantics.specs.Typed.{IsDistance, IsOneNumber, edge_rank}
use Rattle.semantics_names.specs.Outcome.{also, checked, each, followed, found_or}
use Rattle.semantics_names.specs.Statement.{Named}
use Rattle.semantics_names.specs.Typed.{with_types}
use Rattle.semantics_names.specs.Types.{aggregate_type, answer_types, body_types, both_type, call_type, computed_types, condition_type, from_types, function_type, grouped_types, inner_type, is_distance, is_frame, is_one_number, is_whole, key_type, measure_type, of_width, one_types, query_types, select_types, single_type, source_types, term_type, typed, unit_fits, window_types}
use Rattle.semantics_refusals.specs.BadFrames.{BodyHas, CantBe, FromHas, HasNoCall, InnerHas, IsNoCall, NamedHas, SingleHas, SourceHas}
use Rattle.semantics_refusals.proofs.ErrLemmas.{also-err, both-err, checked-err, each-err, followed-err}
use Rattle.semantics_refusals.proofs.OwnLemmas.{own_answers, own_inputs, own_row}

-- ---- faults that are others

found_never : {A : Type 0} (o : Option A) → found_or TypeMismatch o ≡ Err BadFrame → ⊥
found_never (Some a) e = absurd cc
found_never None e = absurd cc

ok_never : {A : Type 0} (a : A) → Ok a ≡ Err BadFrame → ⊥
ok_never a e = absurd cc

count_never : {A : Type 0} (kept : Bool) (a : A) → checked kept ColumnCount (Ok a) ≡ Err BadFrame → ⊥
count_never true a e = absurd cc
count_never false a e = absurd cc

framed : {A : Type 0} (kept : Bool) (a : A) → checked kept BadFrame (Ok a) ≡ Err BadFrame → kept ≡ false
framed true a e = absurd cc
framed false a e = refl

-- ---- one window

last_edge : (e : Edge) → 4 ≤ edge_rank e → e ≡ Edge.unbounded_following
last_edge Edge.unbounded_preceding h = absurd (omega (arith, h))
last_edge (Edge.preceding n) h = absurd (omega (arith, h))
last_edge Edge.current_row h = absurd (omega (arith, h))
last_edge (Edge.following n) h = absurd (omega (arith, h))
last_edge Edge.unbounded_following h = refl

first_edge : (e : Edge) → edge_rank e ≤ 0 → e ≡ Edge.unbounded_preceding
first_edge Edge.unbounded_preceding h = refl
first_edge (Edge.preceding n) h = absurd (omega (arith, h))
first_edge Edge.current_row h = absurd (omega (arith, h))
first_edge (Edge.following n) h = absurd (omega (arith, h))
first_edge Edge.unbounded_following h = absurd (omega (arith, h))

distance_is : (e : Edge) → is_distance e ≡ true → IsDistance e
distance_is Edge.unbounded_preceding d = absurd cc
distance_is (Edge.preceding n) d = inl refl
distance_is Edge.current_row d = absurd cc
distance_is (Edge.following n) d = inr refl
distance_is Edge.unbounded_following d = absurd cc

one_distance : (start end : Edge) → (is_distance start || is_distance end) ≡ true → IsDistance start ⊎ IsDistance end
one_distance start end e = by (is_distance start) (is_distance end) refl refl e
  where
    by : (b c : Bool) → is_distance start ≡ b → is_distance end ≡ c → (b || c) ≡ true → IsDistance start ⊎ IsDistance end
    by true c one other e = inl (distance_is start one)
    by false true one other e = inr (distance_is end other)
    by false false one other e = absurd cc

asked : (b c : Bool) → (if b then c else true) ≡ false → (b ≡ true) × (c ≡ false)
asked true c e = (refl, e)
asked false c e = absurd cc

no_terms : (order : List SortTerm) → nat_lt 0 (length order) ≡ false → order ≡ []
no_terms [] e = refl
no_terms (s ∷ order) e = let few : suc (length order) ≤ 0 = ltb-false 0 (suc (length order)) e in absurd (omega (arith, few))

whole_of : (o : Option Ty) → Finds o Int → is_whole o ≡ true
whole_of (Some of) (inl e) = subst (λ of. is_whole (Some of) ≡ true) (sym e) refl
whole_of (Some of) (inr e) = subst (λ of. is_whole (Some of) ≡ true) (sym e) refl
whole_of None f = absurd f

module _ (answers row : List Ty) where
  not_one : (order : List SortTerm) → is_one_number answers row order ≡ false → ¬ IsOneNumber answers row order
  not_one order e (s, only, h) =
      let whole : is_whole (type_of_term row answers s.term) ≡ true =
      whole_of (type_of_term row answers s.term) ((types_are_found row answers s.term Int).0 h) in
      let is : is_one_number answers row (s ∷ []) ≡ false = subst (λ order. is_one_number answers row order ≡ false) only e in
      absurd (true≢false (sym whole ∙ is))

  cant_be : (order : List SortTerm) (frame : Frame) → is_frame answers row order frame ≡ false → CantBe answers row order frame
  cant_be order frame e = by_start (and_cases (nat_lt (edge_rank frame.start) 4) _ e)
    where
      by_unit : (unit : FrameUnit) → frame.unit ≡ unit → unit_fits answers row order unit frame.start frame.end ≡ false → CantBe answers row order frame
      by_unit FrameUnit.rows same e = absurd cc
      by_unit FrameUnit.range same e =
          let (distance, number) = asked (is_distance frame.start || is_distance frame.end) (is_one_number answers row order) e in
          CantBe.range same (one_distance frame.start frame.end distance) (not_one order number)
      by_unit FrameUnit.groups same e = CantBe.groups same (no_terms order e)

      by_turn : (nat_le (edge_rank frame.start) (edge_rank frame.end) ≡ false)
          ⊎ (unit_fits answers row order frame.unit frame.start frame.end ≡ false)
          → CantBe answers row order frame
      by_turn (inl d) = CantBe.backward (leb-false (edge_rank frame.start) (edge_rank frame.end) d)
      by_turn (inr d) = by_unit frame.unit refl d

      by_end : (nat_lt 0 (edge_rank frame.end) ≡ false)
          ⊎ ((nat_le (edge_rank frame.start) (edge_rank frame.end) && unit_fits answers row order frame.unit frame.start frame.end) ≡ false)
          → CantBe answers row order frame
      by_end (inl d) = CantBe.ends_first (first_edge frame.end (ltb-false 0 (edge_rank frame.end) d))
      by_end (inr d) = by_turn (and_cases (nat_le (edge_rank frame.start) (edge_rank frame.end)) _ d)

      by_start : (nat_lt (edge_rank frame.start) 4 ≡ false)
          ⊎ ((nat_lt 0 (edge_rank frame.end)
          && (nat_le (edge_rank frame.start) (edge_rank frame.end) && unit_fits answers row order frame.unit frame.start frame.end)) ≡ false)
          → CantBe answers row order frame
      by_start (inl d) = CantBe.starts_last (last_edge frame.start (ltb-false (edge_rank frame.start) 4 d))
      by_start (inr d) = by_end (and_cases (nat_lt 0 (edge_rank frame.end)) _ d)

  term_never : (t : Term) → term_type answers row t ≡ Err BadFrame → ⊥
  term_never t e = found_never (type_of_term row answers t) e

  condition_never : (t : Term) → condition_type answers row t ≡ Err BadFrame → ⊥
  condition_never t e = found_never (wanted Int (type_of_term row answers t)) e

  measure_never : (f : AggregateFunction) (t : Term) → measure_type answers row f t ≡ Err BadFrame → ⊥
  measure_never AggregateFunction.count t e = term_never t (also-err (λ of. Int) (term_type answers row t) BadFrame e)
  measure_never AggregateFunction.sum t e = condition_never t e
  measure_never AggregateFunction.min t e = term_never t e
  measure_never AggregateFunction.max t e = term_never t e

  both_never : (x y : Term) → both_type answers row x y ≡ Err BadFrame → ⊥
  both_never x y e = found_never (one_of (type_of_term row answers x) (type_of_term row answers y)) e

  nothing_below : (n : ℕ) → nat_lt 0 n ≡ false → n ≡ 0
  nothing_below n e = let few : n ≤ 0 = ltb-false 0 n e in omega (arith, few)

  function_err : (c : WindowCall) (f : WindowFunction) → c.function ≡ f → function_type answers row f ≡ Err BadFrame → IsNoCall answers row c
  function_err c (WindowFunction.aggregate a) same e = absurd (measure_never a.function a.argument e)
  function_err c WindowFunction.row_number same e = absurd (ok_never Int e)
  function_err c WindowFunction.rank same e = absurd (ok_never Int e)
  function_err c WindowFunction.dense_rank same e = absurd (ok_never Int e)
  function_err c (WindowFunction.ntile n) same e =
      IsNoCall.buckets (same ∙ ap WindowFunction.ntile (nothing_below n (framed (nat_lt 0 n) Int e)))
  function_err c (WindowFunction.lag x n otherwise) same e = absurd (both_never x otherwise e)
  function_err c (WindowFunction.lead x n otherwise) same e = absurd (both_never x otherwise e)
  function_err c (WindowFunction.first_value x) same e = absurd (term_never x e)
  function_err c (WindowFunction.last_value x) same e = absurd (term_never x e)
  function_err c (WindowFunction.nth_value x n) same e =
      IsNoCall.nth x (same ∙ ap (WindowFunction.nth_value x) (nothing_below n (by (nat_lt 0 n) e)))
    where
      by : (kept : Bool) → checked kept BadFrame (term_type answers row x) ≡ Err BadFrame → kept ≡ false
      by true e = absurd (term_never x e)
      by false e = refl

  window_err : (c : WindowCall) → window_types answers row c.window ≡ Err BadFrame → IsNoCall answers row c
  window_err c e = by (followed-err (each (term_type answers row) c.window.partition) _ BadFrame e)
    where
      in_order : (each (λ (s : SortTerm). term_type answers row s.term) c.window.order ≡ Err BadFrame)
          ⊎ ((types : List Ty) × (each (λ (s : SortTerm). term_type answers row s.term) c.window.order ≡ Ok types)
          × (checked (is_frame answers row c.window.order c.window.frame) BadFrame (Ok types) ≡ Err BadFrame)) → IsNoCall answers row c
      in_order (inl d) =
          let (s, there, is) = each-err (λ (s : SortTerm). term_type answers row s.term) c.window.order BadFrame d in absurd (term_never s.term is)
      in_order (inr (types, are, d)) =
          IsNoCall.frame (cant_be c.window.order c.window.frame (framed (is_frame answers row c.window.order c.window.frame) types d))

      by : (each (term_type answers row) c.window.partition ≡ Err BadFrame)
          ⊎ ((types : List Ty) × (each (term_type answers row) c.window.partition ≡ Ok types)
          × (followed (each (λ (s : SortTerm). term_type answers row s.term) c.window.order) (λ types.
          checked (is_frame answers row c.window.order c.window.frame) BadFrame (Ok types)) ≡ Err BadFrame)) → IsNoCall answers row c
      by (inl d) = let (t, there, is) = each-err (term_type answers row) c.window.partition BadFrame d in absurd (term_never t is)
      by (inr (types, are, d)) = in_order (followed-err (each (λ (s : SortTerm). term_type answers row s.term) c.window.order) _ BadFrame d)

  call_err : (c : WindowCall) → call_type answers row c ≡ Err BadFrame → IsNoCall answers row c
  call_err c e = by (followed-err (window_types answers row c.window) _ BadFrame e)
    where
      by : (window_types answers row c.window ≡ Err BadFrame)
          ⊎ ((types : List Ty) × (window_types answers row c.window ≡ Ok types) × (function_type answers row c.function ≡ Err BadFrame))
          → IsNoCall answers row c
      by (inl d) = window_err c d
      by (inr (types, are, d)) = function_err c c.function refl d

-- ---- one SELECT

module _ (answers row : List Ty) where
  grouped_never : (g : Option Grouping) → grouped_types answers row g ≡ Err BadFrame → ⊥
  grouped_never None e = ok_never row e
  grouped_never (Some g) e = by (followed-err (each (term_type answers row) g.by) _ BadFrame e)
    where
      values : (keys : List Ty) → (each (aggregate_type answers row) g.aggregates ≡ Err BadFrame)
          ⊎ ((values : List Ty) × (each (aggregate_type answers row) g.aggregates ≡ Ok values)
          × (also (λ (_ : Ty). keys ++ values) (condition_type answers (keys ++ values) g.having) ≡ Err BadFrame)) → ⊥
      values keys (inl d) =
          let (a, there, is) = each-err (aggregate_type answers row) g.aggregates BadFrame d in measure_never answers row a.function a.argument is
      values keys (inr (found, are, d)) =
          condition_never answers (keys ++ found) g.having
          (also-err (λ (_ : Ty). keys ++ found) (condition_type answers (keys ++ found) g.having) BadFrame d)

      by : (each (term_type answers row) g.by ≡ Err BadFrame)
          ⊎ ((keys : List Ty) × (each (term_type answers row) g.by ≡ Ok keys)
          × (followed (each (aggregate_type answers row) g.aggregates) (λ values.
          also (λ (_ : Ty). keys ++ values) (condition_type answers (keys ++ values) g.having)) ≡ Err BadFrame)) → ⊥
      by (inl d) = let (t, there, is) = each-err (term_type answers row) g.by BadFrame d in term_never answers row t is
      by (inr (keys, are, d)) = values keys (followed-err (each (aggregate_type answers row) g.aggregates) _ BadFrame d)

  computed_err : (s : Select) → computed_types answers row s ≡ Err BadFrame → HasNoCall answers row s
  computed_err s e = by (followed-err (condition_type answers row s.condition) _ BadFrame e)
    where
      groups : (grouped_types answers row s.grouping ≡ Err BadFrame)
          ⊎ ((inputs : List Ty) × (grouped_types answers row s.grouping ≡ Ok inputs)
          × (also (λ (calls : List Ty). inputs ++ calls) (each (call_type answers inputs) s.windows) ≡ Err BadFrame)) → HasNoCall answers row s
      groups (inl d) = absurd (grouped_never s.grouping d)
      groups (inr (inputs, are, d)) =
          let (c, there, is) =
          each-err (call_type answers inputs) s.windows BadFrame
          (also-err (λ (calls : List Ty). inputs ++ calls) (each (call_type answers inputs) s.windows) BadFrame d) in
          record { inputs = inputs; own = own_inputs answers row s.grouping inputs are; call = c; there = there; is = call_err answers inputs c is }

      by : (condition_type answers row s.condition ≡ Err BadFrame)
          ⊎ ((ty : Ty) × (condition_type answers row s.condition ≡ Ok ty)
          × (followed (grouped_types answers row s.grouping) (λ inputs.
          also (λ (calls : List Ty). inputs ++ calls) (each (call_type answers inputs) s.windows)) ≡ Err BadFrame)) → HasNoCall answers row s
      by (inl d) = absurd (condition_never answers row s.condition d)
      by (inr (ty, is, d)) = groups (followed-err (grouped_types answers row s.grouping) _ BadFrame d)

  select_err : (s : Select) → select_types answers row s ≡ Err BadFrame → HasNoCall answers row s
  select_err s e = by (followed-err (computed_types answers row s) _ BadFrame e)
    where
      by : (computed_types answers row s ≡ Err BadFrame)
          ⊎ ((computed : List Ty) × (computed_types answers row s ≡ Ok computed) × (each (term_type answers computed) s.columns ≡ Err BadFrame))
          → HasNoCall answers row s
      by (inl d) = computed_err s d
      by (inr (computed, are, d)) =
          let (t, there, is) = each-err (term_type answers computed) s.columns BadFrame d in absurd (term_never answers computed t is)

-- ---- queries

one_never : (xs ys : List Ty) → one_types xs ys ≡ Err BadFrame → ⊥
one_never [] [] e = ok_never [] e
one_never (x ∷ xs) (y ∷ ys) e = by (both-err ◌∷◌ (typed (one_type x y)) (one_types xs ys) BadFrame e) (one_never xs ys)
  where
    by : (typed (one_type x y) ≡ Err BadFrame) ⊎ ((z : Ty) × (typed (one_type x y) ≡ Ok z) × (one_types xs ys ≡ Err BadFrame))
        → (one_types xs ys ≡ Err BadFrame → ⊥) → ⊥
    by (inl d) rest = found_never (one_type x y) d
    by (inr (z, is, d)) rest = rest d
one_never [] (y ∷ ys) e = absurd cc
one_never (x ∷ xs) [] e = absurd cc

single_never : (types : List Ty) → single_type types ≡ Err BadFrame → ⊥
single_never [] e = absurd cc
single_never (ty ∷ []) e = ok_never ty e
single_never (ty ∷ other ∷ types) e = absurd cc

module _ (tables : List (List Ty)) where
  -- why one SELECT with its FROM has no such types, where what follows from them is refused so for a reason of the SELECT
  single_by : (P : Type 0) (from : From) (s : Select) (gives : List Ty → List Ty → Result (List Ty) Fault)
      → (SingleHas tables HasNoCall from s → P) → (answer_types tables from ≡ Err BadFrame → FromHas tables HasNoCall from)
      → ((answers : List Ty) → from_types tables answers from ≡ Err BadFrame → FromHas tables HasNoCall from)
      → ((answers row : List Ty) → gives answers row ≡ Err BadFrame → HasNoCall answers row s)
      → followed (answer_types tables from) (λ answers. followed (from_types tables answers from) (λ row. gives answers row)) ≡ Err BadFrame → P
  single_by P from s gives there in_answers in_from in_select e = by (followed-err (answer_types tables from) _ BadFrame e)
    where
      rows : (answers : List Ty) → answer_types tables from ≡ Ok answers → (from_types tables answers from ≡ Err BadFrame)
          ⊎ ((row : List Ty) × (from_types tables answers from ≡ Ok row) × (gives answers row ≡ Err BadFrame)) → P
      rows answers are (inl d) = there (SingleHas.sources (in_from answers d))
      rows answers are (inr (row, is, d)) =
          there (SingleHas.select answers row (own_answers tables from answers are) (own_row tables answers from row is) (in_select answers row d))

      by : (answer_types tables from ≡ Err BadFrame)
          ⊎ ((answers : List Ty) × (answer_types tables from ≡ Ok answers)
          × (followed (from_types tables answers from) (λ row. gives answers row) ≡ Err BadFrame)) → P
      by (inl d) = there (SingleHas.sources (in_answers d))
      by (inr (answers, are, d)) = rows answers are (followed-err (from_types tables answers from) _ BadFrame d)

  mutual
    source_err : (source : Source) → source_types tables source ≡ Err BadFrame → SourceHas tables HasNoCall source
    source_err (Source.table at width) e = absurd (by (followed-err (found_or TypeMismatch (slice_get tables at)) (of_width width) BadFrame e))
      where
        by : (found_or TypeMismatch (slice_get tables at) ≡ Err BadFrame)
            ⊎ ((types : List Ty) × (found_or TypeMismatch (slice_get tables at) ≡ Ok types) × (of_width width types ≡ Err BadFrame)) → ⊥
        by (inl d) = found_never (slice_get tables at) d
        by (inr (types, is, d)) = count_never _ types d
    source_err Source.schema e = absurd cc
    source_err (Source.derived body) e = SourceHas.derived (body_err body e)

    from_err : (answers : List Ty) (from : From) → from_types tables answers from ≡ Err BadFrame → FromHas tables HasNoCall from
    from_err answers From.nothing e = absurd cc
    from_err answers (From.joined from kind source on) e =
        by (followed-err (from_types tables answers from) _ BadFrame e) (from_err answers from) (source_err source)
      where
        right : (left : List Ty) → (source_types tables source ≡ Err BadFrame → SourceHas tables HasNoCall source)
            → (source_types tables source ≡ Err BadFrame)
            ⊎ ((right : List Ty) × (source_types tables source ≡ Ok right)
            × (also (λ (_ : Ty). left ++ right) (condition_type answers (left ++ right) on) ≡ Err BadFrame))
            → FromHas tables HasNoCall (From.joined from kind source on)
        right left other (inl d) = FromHas.source (other d)
        right left other (inr (found, is, d)) =
            absurd (condition_never answers (left ++ found) on
            (also-err (λ (_ : Ty). left ++ found) (condition_type answers (left ++ found) on) BadFrame d))

        by : (from_types tables answers from ≡ Err BadFrame)
            ⊎ ((left : List Ty) × (from_types tables answers from ≡ Ok left)
            × (followed (source_types tables source) (λ right. also (λ (_ : Ty). left ++ right) (condition_type answers (left ++ right) on)) ≡ Err BadFrame))
            → (from_types tables answers from ≡ Err BadFrame → FromHas tables HasNoCall from)
            → (source_types tables source ≡ Err BadFrame → SourceHas tables HasNoCall source)
            → FromHas tables HasNoCall (From.joined from kind source on)
        by (inl d) one other = FromHas.earlier (one d)
        by (inr (left, is, d)) one other = right left other (followed-err (source_types tables source) _ BadFrame d)
    from_err answers (From.with_inner from query) e = FromHas.beside (from_err answers from e)

    inner_err : (query : InnerQuery) → inner_type tables query ≡ Err BadFrame → InnerHas tables HasNoCall query
    inner_err (InnerQuery.values_of body) e = by (followed-err (body_types tables body) single_type BadFrame e) (body_err body)
      where
        by : (body_types tables body ≡ Err BadFrame) ⊎ ((types : List Ty) × (body_types tables body ≡ Ok types) × (single_type types ≡ Err BadFrame))
            → (body_types tables body ≡ Err BadFrame → BodyHas tables HasNoCall body) → InnerHas tables HasNoCall (InnerQuery.values_of body)
        by (inl d) inside = InnerHas.members (inside d)
        by (inr (types, is, d)) inside = absurd (single_never types d)
    inner_err (InnerQuery.exists body) e = InnerHas.tested (body_err body (also-err (λ types. Int) (body_types tables body) BadFrame e))

    answers_err : (from : From) → answer_types tables from ≡ Err BadFrame → FromHas tables HasNoCall from
    answers_err From.nothing e = absurd cc
    answers_err (From.joined from kind source on) e = FromHas.earlier (answers_err from e)
    answers_err (From.with_inner from query) e =
        by (both-err (λ before ty. before ++ ty ∷ []) (answer_types tables from) (inner_type tables query) BadFrame e) (answers_err from) (inner_err query)
      where
        by : (answer_types tables from ≡ Err BadFrame)
            ⊎ ((before : List Ty) × (answer_types tables from ≡ Ok before) × (inner_type tables query ≡ Err BadFrame))
            → (answer_types tables from ≡ Err BadFrame → FromHas tables HasNoCall from)
            → (inner_type tables query ≡ Err BadFrame → InnerHas tables HasNoCall query) → FromHas tables HasNoCall (From.with_inner from query)
        by (inl d) one other = FromHas.beside (one d)
        by (inr (before, is, d)) one other = FromHas.inner (other d)

    body_err : (body : Body) → body_types tables body ≡ Err BadFrame → BodyHas tables HasNoCall body
    body_err (Body.select from s) e =
        single_by (BodyHas tables HasNoCall (Body.select from s)) from s (λ answers row. select_types answers row s) BodyHas.alone (answers_err from)
        (λ answers. from_err answers from) (λ answers row. select_err answers row s) e
    body_err (Body.compound left operator from s) e =
        by (followed-err (body_types tables left) _ BadFrame e) (body_err left) (answers_err from) (λ answers. from_err answers from)
      where
        joins : (first answers row : List Ty) → followed (select_types answers row s) (one_types first) ≡ Err BadFrame → HasNoCall answers row s
        joins first answers row d = at (followed-err (select_types answers row s) (one_types first) BadFrame d)
          where
            at : (select_types answers row s ≡ Err BadFrame)
                ⊎ ((types : List Ty) × (select_types answers row s ≡ Ok types) × (one_types first types ≡ Err BadFrame)) → HasNoCall answers row s
            at (inl f) = select_err answers row s f
            at (inr (types, are, f)) = absurd (one_never first types f)

        by : (body_types tables left ≡ Err BadFrame)
            ⊎ ((first : List Ty) × (body_types tables left ≡ Ok first)
            × (followed (answer_types tables from) (λ answers. followed (from_types tables answers from) (λ row.
            followed (select_types answers row s) (one_types first))) ≡ Err BadFrame))
            → (body_types tables left ≡ Err BadFrame → BodyHas tables HasNoCall left)
            → (answer_types tables from ≡ Err BadFrame → FromHas tables HasNoCall from)
            → ((answers : List Ty) → from_types tables answers from ≡ Err BadFrame → FromHas tables HasNoCall from)
            → BodyHas tables HasNoCall (Body.compound left operator from s)
        by (inl d) before in_answers in_from = BodyHas.before (before d)
        by (inr (first, is, d)) before in_answers in_from =
            single_by (BodyHas tables HasNoCall (Body.compound left operator from s)) from s
            (λ answers row. followed (select_types answers row s) (one_types first)) BodyHas.last in_answers in_from (joins first) d

  key_err : (body : Body) (types : List Ty) (key : KeyTerm) → key_type tables body types key ≡ Err BadFrame → BodyHas tables HasNoCall body
  key_err body types (KeyTerm.result at) e = absurd (found_never (slice_get types at) e)
  key_err (Body.select from s) types (KeyTerm.term t) e = plain (checked-err (not s.distinct) WrongPlace _ BadFrame e)
    where
      computed : (answers row : List Ty) → (computed_types answers row s ≡ Err BadFrame)
          ⊎ ((computed : List Ty) × (computed_types answers row s ≡ Ok computed) × (term_type answers computed t ≡ Err BadFrame)) → HasNoCall answers row s
      computed answers row (inl d) = computed_err answers row s d
      computed answers row (inr (types, are, d)) = absurd (term_never answers types t d)

      plain : (WrongPlace ≡ BadFrame)
          ⊎ (followed (answer_types tables from) (λ answers. followed (from_types tables answers from) (λ row.
          followed (computed_types answers row s) (λ computed. term_type answers computed t))) ≡ Err BadFrame)
          → BodyHas tables HasNoCall (Body.select from s)
      plain (inl d) = absurd cc
      plain (inr d) = rows (followed-err (answer_types tables from) _ BadFrame d)
        where
          last : (answers row : List Ty) → answer_types tables from ≡ Ok answers → from_types tables answers from ≡ Ok row
              → followed (computed_types answers row s) (λ computed. term_type answers computed t) ≡ Err BadFrame
              → BodyHas tables HasNoCall (Body.select from s)
          last answers row are is f =
              BodyHas.alone (SingleHas.select answers row (own_answers tables from answers are) (own_row tables answers from row is)
              (computed answers row (followed-err (computed_types answers row s) _ BadFrame f)))

          sources : (answers : List Ty) → answer_types tables from ≡ Ok answers → (from_types tables answers from ≡ Err BadFrame)
              ⊎ ((row : List Ty) × (from_types tables answers from ≡ Ok row)
              × (followed (computed_types answers row s) (λ computed. term_type answers computed t) ≡ Err BadFrame))
              → BodyHas tables HasNoCall (Body.select from s)
          sources answers are (inl f) = BodyHas.alone (SingleHas.sources (from_err answers from f))
          sources answers are (inr (row, is, f)) = last answers row are is f

          rows : (answer_types tables from ≡ Err BadFrame)
              ⊎ ((answers : List Ty) × (answer_types tables from ≡ Ok answers)
              × (followed (from_types tables answers from) (λ row.
              followed (computed_types answers row s) (λ computed. term_type answers computed t)) ≡ Err BadFrame))
              → BodyHas tables HasNoCall (Body.select from s)
          rows (inl f) = BodyHas.alone (SingleHas.sources (answers_err from f))
          rows (inr (answers, are, f)) = sources answers are (followed-err (from_types tables answers from) _ BadFrame f)
  key_err (Body.compound left operator from s) types (KeyTerm.term t) e = absurd cc

  pub frames_err : (n : Named) → with_types tables n ≡ Err BadFrame → NamedHas tables HasNoCall n
  frames_err n e = by (followed-err (each (body_types tables) n.beside) _ BadFrame e)
    where
      keys : (body_types tables n.query.body ≡ Err BadFrame)
          ⊎ ((types : List Ty) × (body_types tables n.query.body ≡ Ok types)
          × (also (λ (_ : List Ty). types) (each (λ (k : Key). key_type tables n.query.body types k.by) n.query.order) ≡ Err BadFrame))
          → NamedHas tables HasNoCall n
      keys (inl d) = NamedHas.query (body_err n.query.body d)
      keys (inr (types, are, d)) =
          let (k, there, is) =
          each-err (λ (k : Key). key_type tables n.query.body types k.by) n.query.order BadFrame
          (also-err (λ _. types) (each (λ (k : Key). key_type tables n.query.body types k.by) n.query.order) BadFrame d) in
          NamedHas.query (key_err n.query.body types k.by is)

      by : (each (body_types tables) n.beside ≡ Err BadFrame)
          ⊎ ((types : List (List Ty)) × (each (body_types tables) n.beside ≡ Ok types) × (also (λ _. n) (query_types tables n.query) ≡ Err BadFrame))
          → NamedHas tables HasNoCall n
      by (inl d) =
          let (body, there, is) = each-err (body_types tables) n.beside BadFrame d in NamedHas.beside body there (body_err body is)
      by (inr (types, are, d)) =
          keys (followed-err (body_types tables n.query.body) _ BadFrame (also-err (λ _. n) (query_types tables n.query) BadFrame d))
