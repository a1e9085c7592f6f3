-- Whether two terms are one tree, and two aggregates, windowed functions or queries the same.
use Rattle.std.specs.Prelude.{Bool, true, false, ◌&&◌, ℕ, List, [], ◌∷◌, Option, Some, None, nat_eq}
use Rattle.std.specs.Ordering.{is_eq}
use Rattle.values.specs.Order.{datum_cmp}
use Rattle.expr.specs.Term.{Term, Terms, Arms, literal, column, call, arithmetic, concat, compare, is, and, or, between, among, coalesce, choice, choice_of, null_if, like, none, more, answer, no_arms, arm}
use Rattle.expr.specs.declared.operations.kinds.Arithmetic.{Arithmetic}
use Rattle.expr.specs.declared.operations.kinds.Arithmetic.TheVariants as a
use Rattle.expr.specs.declared.operations.kinds.Comparison.{Comparison}
use Rattle.expr.specs.declared.operations.kinds.Comparison.TheVariants as c
use Rattle.expr.specs.declared.operations.kinds.Function.{Function}
use Rattle.expr.specs.declared.operations.kinds.Function.TheVariants as g
use Rattle.semantics.specs.Query.{Aggregate, AggregateFunction, Body, Direction, Edge, Exclusion, Frame, FrameUnit, From, Grouping, InnerQuery, JoinKind, Operator, Select, SortTerm, Source, Window, WindowCall, WindowFunction}

-- the places of the operators in their lists
abbrev pub arithmetic_place : Arithmetic → ℕ
arithmetic_place a.Add = 0
arithmetic_place a.Sub = 1
arithmetic_place a.Mul = 2
arithmetic_place a.Div = 3
arithmetic_place a.Rem = 4
arithmetic_place a.BitAnd = 5
arithmetic_place a.BitOr = 6

abbrev pub comparison_place : Comparison → ℕ
comparison_place c.Eq = 0
comparison_place c.Ne = 1
comparison_place c.Lt = 2
comparison_place c.Le = 3
comparison_place c.Gt = 4
comparison_place c.Ge = 5

abbrev pub function_place : Function → ℕ
function_place g.Neg = 0
function_place g.BitNot = 1
function_place g.Not = 2
function_place g.Abs = 3
function_place g.Length = 4
function_place g.Lower = 5
function_place g.Upper = 6
function_place g.Hex = 7
function_place g.TypeOf = 8

abbrev mutual
  pub is_same_term : Term → Term → Bool
  is_same_term (literal v) (literal u) = is_eq (datum_cmp v u)
  is_same_term (column i) (column j) = nat_eq i j
  is_same_term (call f x) (call h y) = nat_eq (function_place f) (function_place h) && is_same_term x y
  is_same_term (arithmetic f x s) (arithmetic h y t) =
      nat_eq (arithmetic_place f) (arithmetic_place h) && (is_same_term x y && is_same_term s t)
  is_same_term (concat x s) (concat y t) = is_same_term x y && is_same_term s t
  is_same_term (compare f x s) (compare h y t) =
      nat_eq (comparison_place f) (comparison_place h) && (is_same_term x y && is_same_term s t)
  is_same_term (is x s) (is y t) = is_same_term x y && is_same_term s t
  is_same_term (and x s) (and y t) = is_same_term x y && is_same_term s t
  is_same_term (or x s) (or y t) = is_same_term x y && is_same_term s t
  is_same_term (between x s p) (between y t q) = is_same_term x y && (is_same_term s t && is_same_term p q)
  is_same_term (among x xs) (among y ys) = is_same_term x y && are_same_terms xs ys
  is_same_term (coalesce xs) (coalesce ys) = are_same_terms xs ys
  is_same_term (choice xs x) (choice ys y) = are_same_arms xs ys && is_same_term x y
  is_same_term (choice_of s xs x) (choice_of t ys y) = is_same_term s t && (are_same_arms xs ys && is_same_term x y)
  is_same_term (null_if x s) (null_if y t) = is_same_term x y && is_same_term s t
  is_same_term (like x s) (like y t) = is_same_term x y && is_same_term s t
  is_same_term _ _ = false

  pub are_same_terms : Terms → Terms → Bool
  are_same_terms none none = true
  are_same_terms (answer j) (answer k) = nat_eq j k
  are_same_terms (more x xs) (more y ys) = is_same_term x y && are_same_terms xs ys
  are_same_terms _ _ = false

  pub are_same_arms : Arms → Arms → Bool
  are_same_arms no_arms no_arms = true
  are_same_arms (arm x s xs) (arm y t ys) = is_same_term x y && (is_same_term s t && are_same_arms xs ys)
  are_same_arms _ _ = false

abbrev pub are_same : {A : Type 0} → (A → A → Bool) → List A → List A → Bool
are_same same [] [] = true
are_same same (x ∷ xs) (y ∷ ys) = same x y && are_same same xs ys
are_same same _ _ = false

abbrev pub is_same_bool : Bool → Bool → Bool
is_same_bool true b = b
is_same_bool false true = false
is_same_bool false false = true

abbrev pub aggregate_place : AggregateFunction → ℕ
aggregate_place AggregateFunction.count = 0
aggregate_place AggregateFunction.sum = 1
aggregate_place AggregateFunction.min = 2
aggregate_place AggregateFunction.max = 3

abbrev pub is_same_aggregate : Aggregate → Aggregate → Bool
is_same_aggregate x y =
    nat_eq (aggregate_place x.function) (aggregate_place y.function) && is_same_term x.argument y.argument

abbrev pub is_same_direction : Direction → Direction → Bool
is_same_direction d e = is_same_bool d.descending e.descending && is_same_bool d.nulls_first e.nulls_first

abbrev pub is_same_sort : SortTerm → SortTerm → Bool
is_same_sort s t = is_same_term s.term t.term && is_same_direction s.direction t.direction

abbrev pub is_same_edge : Edge → Edge → Bool
is_same_edge Edge.unbounded_preceding Edge.unbounded_preceding = true
is_same_edge (Edge.preceding m) (Edge.preceding n) = nat_eq m n
is_same_edge Edge.current_row Edge.current_row = true
is_same_edge (Edge.following m) (Edge.following n) = nat_eq m n
is_same_edge Edge.unbounded_following Edge.unbounded_following = true
is_same_edge _ _ = false

abbrev pub unit_place : FrameUnit → ℕ
unit_place FrameUnit.rows = 0
unit_place FrameUnit.range = 1
unit_place FrameUnit.groups = 2

abbrev pub exclusion_place : Exclusion → ℕ
exclusion_place Exclusion.no_others = 0
exclusion_place Exclusion.current = 1
exclusion_place Exclusion.group = 2
exclusion_place Exclusion.ties = 3

abbrev pub is_same_frame : Frame → Frame → Bool
is_same_frame f h =
    nat_eq (unit_place f.unit) (unit_place h.unit)
    && (is_same_edge f.start h.start && (is_same_edge f.end h.end && nat_eq (exclusion_place f.exclude) (exclusion_place h.exclude)))

abbrev pub is_same_window : Window → Window → Bool
is_same_window v u =
    are_same is_same_term v.partition u.partition && (are_same is_same_sort v.order u.order && is_same_frame v.frame u.frame)

abbrev pub is_same_function : WindowFunction → WindowFunction → Bool
is_same_function (WindowFunction.aggregate x) (WindowFunction.aggregate y) = is_same_aggregate x y
is_same_function WindowFunction.row_number WindowFunction.row_number = true
is_same_function WindowFunction.rank WindowFunction.rank = true
is_same_function WindowFunction.dense_rank WindowFunction.dense_rank = true
is_same_function (WindowFunction.ntile m) (WindowFunction.ntile n) = nat_eq m n
is_same_function (WindowFunction.lag x m s) (WindowFunction.lag y n t) = is_same_term x y && (nat_eq m n && is_same_term s t)
is_same_function (WindowFunction.lead x m s) (WindowFunction.lead y n t) = is_same_term x y && (nat_eq m n && is_same_term s t)
is_same_function (WindowFunction.first_value x) (WindowFunction.first_value y) = is_same_term x y
is_same_function (WindowFunction.last_value x) (WindowFunction.last_value y) = is_same_term x y
is_same_function (WindowFunction.nth_value x m) (WindowFunction.nth_value y n) = is_same_term x y && nat_eq m n
is_same_function _ _ = false

abbrev pub is_same_call : WindowCall → WindowCall → Bool
is_same_call x y = is_same_window x.window y.window && is_same_function x.function y.function

-- ---- queries

abbrev pub is_same_option : {A : Type 0} → (A → A → Bool) → Option A → Option A → Bool
is_same_option same None None = true
is_same_option same (Some x) (Some y) = same x y
is_same_option same _ _ = false

abbrev pub is_same_grouping : Grouping → Grouping → Bool
is_same_grouping g h =
    are_same is_same_term g.by h.by && (are_same is_same_aggregate g.aggregates h.aggregates && is_same_term g.having h.having)

abbrev pub is_same_select : Select → Select → Bool
is_same_select s t =
    is_same_term s.condition t.condition && (is_same_option is_same_grouping s.grouping t.grouping
    && (are_same is_same_call s.windows t.windows && (are_same is_same_term s.columns t.columns && is_same_bool s.distinct t.distinct)))

abbrev pub join_place : JoinKind → ℕ
join_place JoinKind.inner = 0
join_place JoinKind.left = 1
join_place JoinKind.right = 2
join_place JoinKind.full = 3

abbrev pub operator_place : Operator → ℕ
operator_place Operator.union = 0
operator_place Operator.union_all = 1
operator_place Operator.intersect = 2
operator_place Operator.except = 3

abbrev mutual
  pub is_same_source : Source → Source → Bool
  is_same_source (Source.table at width) (Source.table place size) = nat_eq at place && nat_eq width size
  is_same_source Source.schema Source.schema = true
  is_same_source (Source.derived body) (Source.derived other) = is_same_body body other
  is_same_source _ _ = false

  pub is_same_from : From → From → Bool
  is_same_from From.nothing From.nothing = true
  is_same_from (From.joined from kind source on) (From.joined other join right condition) =
      is_same_from from other && (nat_eq (join_place kind) (join_place join) && (is_same_source source right && is_same_term on condition))
  is_same_from (From.with_inner from query) (From.with_inner other inner) = is_same_from from other && is_same_inner query inner
  is_same_from _ _ = false

  pub is_same_inner : InnerQuery → InnerQuery → Bool
  is_same_inner (InnerQuery.values_of body) (InnerQuery.values_of other) = is_same_body body other
  is_same_inner (InnerQuery.exists body) (InnerQuery.exists other) = is_same_body body other
  is_same_inner _ _ = false

  pub is_same_body : Body → Body → Bool
  is_same_body (Body.select from s) (Body.select other t) = is_same_from from other && is_same_select s t
  is_same_body (Body.compound body op from s) (Body.compound left operator other t) =
      is_same_body body left && (nat_eq (operator_place op) (operator_place operator) && (is_same_from from other && is_same_select s t))
  is_same_body _ _ = false
