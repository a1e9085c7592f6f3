-- The places of a SELECT at which an expression may stand, and what each says of a part of it. (SELECT; Window Functions)
use Rattle.std.specs.Prelude.{Bool, ℕ, ◌+◌, suc, pos, List, [], ◌∷◌, length, Option, Some, None, option_map, Result, Ok, Err, if◌then◌else◌}
use Rattle.std.specs.Str.{str_eq_ignore_ascii_case}
use Rattle.values.specs.Datum.{null}
use Rattle.values.specs.declared.fault.Fault.{Fault}
use Rattle.values.specs.declared.fault.Fault.TheVariants.{BadFrame, BareColumn, WrongPlace}
use Rattle.expr.specs.Term.{Term, column, literal}
use Rattle.sql_reader_syntax.specs.ExprTree.{ExprTree, ExprTrees, MaybeExpr, BehindTree, OverTree, WindowTree, TermTrees}
use Rattle.sql_reader_syntax.specs.Tree.{Name}
use Rattle.sql_reader_syntax.specs.declared.expr.Function.{Function}
use Rattle.sql_reader_syntax.specs.declared.expr.Function.TheVariants as w
use Rattle.sql_reader_syntax.specs.declared.query.Direction as written_direction
use Rattle.sql_reader_syntax.specs.declared.query.Edge as written_edge
use Rattle.sql_reader_syntax.specs.declared.query.Edge.TheVariants as edges
use Rattle.sql_reader_syntax.specs.declared.query.Exclusion as written_exclusion
use Rattle.sql_reader_syntax.specs.declared.query.Exclusion.TheVariants as exclusions
use Rattle.sql_reader_syntax.specs.declared.query.Frame as written_frame
use Rattle.sql_reader_syntax.specs.declared.query.FrameUnit as written_unit
use Rattle.sql_reader_syntax.specs.declared.query.FrameUnit.TheVariants as units
use Rattle.semantics_names.specs.Expression.{Answers, Says, term_of, terms_of}
use Rattle.semantics_names.specs.Outcome.{also, both, found_or, followed}
use Rattle.semantics.specs.Query.{always, filtered, AggregateFunction, Aggregate, Direction, Edge, Exclusion, Frame, FrameUnit, SortTerm, Window, WindowFunction, WindowCall}
use Rattle.semantics_names.specs.Same.{is_same_term, is_same_aggregate, is_same_call}
use Rattle.semantics_names.specs.Scope.{Scope, column_of}

-- the place of the first item that is the same
abbrev pub place_of : {A : Type 0} → (A → A → Bool) → A → List A → Option ℕ
place_of same x [] = None
place_of same x (y ∷ ys) = if same x y then Some 0 else option_map suc (place_of same x ys)

-- the column of the first item that is the same, where the items' columns begin at this one
abbrev pub column_from : ℕ → Option ℕ → Option Term
column_from first None = None
column_from first (Some at) = Some (column (first + at))

-- ---- over the rows of FROM: WHERE, ON, GROUP BY, and what aggregates are of

abbrev pub columns_say : Scope → Says
columns_say scope (ExprTree.Column table name) = also Some (column_of scope table name)
columns_say scope _ = Ok None

-- ---- aggregates

abbrev pub aggregate : AggregateFunction → Term → Aggregate
aggregate function argument = record { function = function; argument = argument }

-- the aggregate function of this name
abbrev pub aggregate_named : Function → Option AggregateFunction
aggregate_named w.Count = Some AggregateFunction.count
aggregate_named w.Sum = Some AggregateFunction.sum
aggregate_named w.Min = Some AggregateFunction.min
aggregate_named w.Max = Some AggregateFunction.max
aggregate_named _ = None

-- ---- over the rows of groups: HAVING, and what is computed after it

-- the column of the aggregate in its list
abbrev pub aggregate_column : ℕ → List Aggregate → Option (Result Aggregate Fault) → Result (Option Term) Fault
aggregate_column first all None = Ok None
aggregate_column first all (Some outcome) = also (λ a. column_from first (place_of is_same_aggregate a all)) outcome

-- a column of FROM is bare here, if it is one at all
abbrev pub bare : Result Term Fault → Result (Option Term) Fault
bare (Ok t) = Err BareColumn
bare (Err fault) = Err fault

-- the column of the first expression of GROUP BY that is the same term
abbrev pub key_column : List Term → Result Term Fault → Option Term
key_column by (Ok t) = column_from 0 (place_of is_same_term t by)
key_column by (Err fault) = None

abbrev pub key_or : Option Term → Result (Option Term) Fault → Result (Option Term) Fault
key_or (Some t) otherwise = Ok (Some t)
key_or None otherwise = otherwise

-- ---- windows

abbrev pub direction_of : written_direction.Direction → Direction
direction_of d = record { descending = d.descending; nulls_first = d.nulls_first }

-- a distance isn't negative, as it is spelt
abbrev pub edge_of : written_edge.Edge → Option Edge
edge_of edges.UnboundedPreceding = Some Edge.unbounded_preceding
edge_of (edges.Preceding (pos n)) = Some (Edge.preceding n)
edge_of edges.CurrentRow = Some Edge.current_row
edge_of (edges.Following (pos n)) = Some (Edge.following n)
edge_of edges.UnboundedFollowing = Some Edge.unbounded_following
edge_of _ = None

abbrev pub unit_of : written_unit.FrameUnit → FrameUnit
unit_of units.Rows = FrameUnit.rows
unit_of units.Range = FrameUnit.range
unit_of units.Groups = FrameUnit.groups

abbrev pub exclusion_of : written_exclusion.Exclusion → Exclusion
exclusion_of exclusions.NoOthers = Exclusion.no_others
exclusion_of exclusions.CurrentRow = Exclusion.current
exclusion_of exclusions.Group = Exclusion.group
exclusion_of exclusions.Ties = Exclusion.ties

-- RANGE BETWEEN UNBOUNDED PRECEDING AND CURRENT ROW
abbrev pub default_frame : Frame
default_frame = record { unit = FrameUnit.range; start = Edge.unbounded_preceding; end = Edge.current_row; exclude = Exclusion.no_others }

abbrev pub frame_between : written_frame.Frame → Edge → Edge → Frame
frame_between frame start end = record { unit = unit_of frame.unit; start = start; end = end; exclude = exclusion_of frame.exclusion }

abbrev pub frame_of : Option written_frame.Frame → Result Frame Fault
frame_of None = Ok default_frame
frame_of (Some frame) = both (frame_between frame) (found_or BadFrame (edge_of frame.start)) (found_or BadFrame (edge_of frame.end))

abbrev pub window : List Term → List SortTerm → Frame → Window
window partition order frame = record { partition = partition; order = order; frame = frame }

-- a window that the SELECT defines
pub record Defined : Type 0 where
  pub name : Name
  pub window : Window

abbrev pub defined_as : List Defined → Name → Result Window Fault
defined_as [] name = Err BadFrame
defined_as (d ∷ ds) name = if str_eq_ignore_ascii_case d.name name then Ok d.window else defined_as ds name

-- the function before OVER: one of the four aggregates, or a ranking or value function
abbrev pub function_or : Option (Result Aggregate Fault) → Result WindowFunction Fault → Result WindowFunction Fault
function_or (Some outcome) otherwise = also WindowFunction.aggregate outcome
function_or None otherwise = otherwise

abbrev pub window_call : WindowFunction → Window → WindowCall
window_call function window = record { window = window; function = function }

abbrev pub over_call : Option (Result Window Fault) → Result WindowFunction Fault → Option (Result WindowCall Fault)
over_call None function = None
over_call (Some window) function = Some (both window_call function window)

-- ---- over the rows of windows: the result columns and ORDER BY

-- the column of the windowed function in its list, or what is said beneath
abbrev pub call_column : ℕ → List WindowCall → Option (Result WindowCall Fault) → Result (Option Term) Fault → Result (Option Term) Fault
call_column first calls None beneath = beneath
call_column first calls (Some outcome) beneath = also (λ c. column_from first (place_of is_same_call c calls)) outcome

-- ---- what is said, where the inner queries have these answers

module _ (answers : Answers) where
  -- the argument of an aggregate, on the rows that its FILTER lets through
  abbrev pub filter_of : Says → MaybeExpr → Term → Result Term Fault
  filter_of says MaybeExpr.Absent argument = Ok argument
  filter_of says (MaybeExpr.Present e) argument = also (λ condition. filtered condition argument) (term_of answers says e)

  abbrev pub aggregate_call : Says → Option AggregateFunction → ExprTrees → MaybeExpr → Option (Result Aggregate Fault)
  aggregate_call says (Some function) (ExprTrees.More e ExprTrees.No_more) filter =
      Some (also (aggregate function) (followed (term_of answers says e) (filter_of says filter)))
  aggregate_call says _ _ _ = None

  -- `count(*)` counts a value that is never NULL
  abbrev pub count_rows : Says → MaybeExpr → Result Aggregate Fault
  count_rows says filter = also (aggregate AggregateFunction.count) (filter_of says filter always)

  -- the aggregate that a call is, without OVER
  abbrev pub aggregate_of : Says → ExprTree → Option (Result Aggregate Fault)
  aggregate_of says (ExprTree.CountRows (BehindTree.Behind filter OverTree.No_over)) = Some (count_rows says filter)
  aggregate_of says (ExprTree.Call function items (BehindTree.Behind filter OverTree.No_over)) =
      aggregate_call says (aggregate_named function) items filter
  aggregate_of says _ = None

  abbrev pub beside_keys : Scope → List Term → List Aggregate → Says
  beside_keys scope by aggregates (ExprTree.Column table name) = bare (column_of scope table name)
  beside_keys scope by aggregates part = aggregate_column (length by) aggregates (aggregate_of (columns_say scope) part)

  abbrev pub groups_say : Scope → List Term → List Aggregate → Says
  groups_say scope by aggregates part =
      key_or (key_column by (term_of answers (columns_say scope) part)) (beside_keys scope by aggregates part)

  abbrev pub sorted : Says → TermTrees → Result (List SortTerm) Fault
  sorted says TermTrees.No_term = Ok []
  sorted says (TermTrees.Term e direction rest) =
      both (λ t ts. record { term = t; direction = direction_of direction } ∷ ts) (term_of answers says e) (sorted says rest)

  -- the window that is written, over the rows of FROM or of groups
  abbrev pub window_of : Says → WindowTree → Result Window Fault
  window_of says (WindowTree.Window partition order frame) =
      followed (terms_of answers says partition) (λ ts. both (window ts) (sorted says order) (frame_of frame))

  -- what stands behind OVER, if that is written
  abbrev pub over : Says → List Defined → OverTree → Option (Result Window Fault)
  over says defined OverTree.No_over = None
  over says defined (OverTree.OverName name) = Some (defined_as defined name)
  over says defined (OverTree.Over w) = Some (window_of says w)

  abbrev pub of_term : Says → (Term → WindowFunction) → ExprTree → Result WindowFunction Fault
  of_term says function e = also function (term_of answers says e)

  -- the ranking and value functions, which have no FILTER
  abbrev pub ranking : Says → Function → ExprTrees → Result WindowFunction Fault
  ranking says w.RowNumber ExprTrees.No_more = Ok WindowFunction.row_number
  ranking says w.Rank ExprTrees.No_more = Ok WindowFunction.rank
  ranking says w.DenseRank ExprTrees.No_more = Ok WindowFunction.dense_rank
  ranking says w.NTile (ExprTrees.More (ExprTree.Number (pos n)) ExprTrees.No_more) = Ok (WindowFunction.ntile n)
  ranking says w.FirstValue (ExprTrees.More e ExprTrees.No_more) = of_term says WindowFunction.first_value e
  ranking says w.LastValue (ExprTrees.More e ExprTrees.No_more) = of_term says WindowFunction.last_value e
  ranking says w.NthValue (ExprTrees.More e (ExprTrees.More (ExprTree.Number (pos n)) ExprTrees.No_more)) =
      of_term says (λ t. WindowFunction.nth_value t n) e
  ranking says w.Lag (ExprTrees.More e ExprTrees.No_more) = of_term says (λ t. WindowFunction.lag t 1 (literal null)) e
  ranking says w.Lag (ExprTrees.More e (ExprTrees.More (ExprTree.Number (pos n)) ExprTrees.No_more)) =
      of_term says (λ t. WindowFunction.lag t n (literal null)) e
  ranking says w.Lag (ExprTrees.More e (ExprTrees.More (ExprTree.Number (pos n)) (ExprTrees.More d ExprTrees.No_more))) =
      both (λ t otherwise. WindowFunction.lag t n otherwise) (term_of answers says e) (term_of answers says d)
  ranking says w.Lead (ExprTrees.More e ExprTrees.No_more) = of_term says (λ t. WindowFunction.lead t 1 (literal null)) e
  ranking says w.Lead (ExprTrees.More e (ExprTrees.More (ExprTree.Number (pos n)) ExprTrees.No_more)) =
      of_term says (λ t. WindowFunction.lead t n (literal null)) e
  ranking says w.Lead (ExprTrees.More e (ExprTrees.More (ExprTree.Number (pos n)) (ExprTrees.More d ExprTrees.No_more))) =
      both (λ t otherwise. WindowFunction.lead t n otherwise) (term_of answers says e) (term_of answers says d)
  ranking says _ _ = Err WrongPlace

  abbrev pub ranking_unless : Says → MaybeExpr → Function → ExprTrees → Result WindowFunction Fault
  ranking_unless says MaybeExpr.Absent function items = ranking says function items
  ranking_unless says (MaybeExpr.Present e) function items = Err WrongPlace

  -- the windowed function that a call is
  abbrev pub call_of : Says → List Defined → ExprTree → Option (Result WindowCall Fault)
  call_of says defined (ExprTree.CountRows (BehindTree.Behind filter o)) =
      over_call (over says defined o) (also WindowFunction.aggregate (count_rows says filter))
  call_of says defined (ExprTree.Call function items (BehindTree.Behind filter o)) =
      over_call (over says defined o)
      (function_or (aggregate_call says (aggregate_named function) items filter) (ranking_unless says filter function items))
  call_of says defined _ = None

  -- the input row has so many values; behind them stand those of the windows
  abbrev pub windows_say : Says → List Defined → ℕ → List WindowCall → Says
  windows_say input defined width calls part = call_column width calls (call_of input defined part) (input part)
