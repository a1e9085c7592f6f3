-- The types of a query's terms and columns. NULL fits any type. (STRICT Tables)
use Rattle.std.specs.Prelude.{Bool, true, false, not, ◌&&◌, ◌||◌, ℕ, List, [], ◌∷◌, ◌++◌, length, Option, Some, None, Result, Ok, Err, if◌then◌else◌, nat_eq, nat_le, nat_lt, slice_get}
use Rattle.values.specs.declared.fault.Fault.{Fault}
use Rattle.values.specs.declared.fault.Fault.TheVariants.{BadFrame, ColumnCount, TypeMismatch, WrongPlace}
use Rattle.values.specs.declared.value.Ty.{Ty}
use Rattle.values.specs.declared.value.Ty.TheVariants.{Int, Null}
use Rattle.expr.specs.Term.{Term}
use Rattle.expr.specs.TermType.{one_of, one_type, type_of_term, wanted}
use Rattle.semantics.specs.Query.{AggregateFunction, Aggregate, Body, Edge, Frame, FrameUnit, From, Grouping, InnerQuery, KeyTerm, QueryData, Select, SortTerm, Source, Window, WindowCall, WindowFunction}
use Rattle.semantics.specs.Typed.{edge_rank, schema_types}
use Rattle.semantics_names.specs.Outcome.{also, both, checked, each, found_or, followed}

abbrev pub typed : Option Ty → Result Ty Fault
typed = found_or TypeMismatch

abbrev pub is_distance : Edge → Bool
is_distance (Edge.preceding _) = true
is_distance (Edge.following _) = true
is_distance _ = false

-- what is NULL alone may stand for a whole number
abbrev pub is_whole : Option Ty → Bool
is_whole None = false
is_whole (Some Int) = true
is_whole (Some Null) = true
is_whole (Some _) = false

-- over a row whose columns have these types, with answers of inner queries of these
module _ (answers columns : List Ty) where
  abbrev pub term_type : Term → Result Ty Fault
  term_type t = typed (type_of_term columns answers t)

  -- it is of the type that is wanted
  abbrev pub wanted_type : Ty → Term → Result Ty Fault
  wanted_type ty t = typed (wanted ty (type_of_term columns answers t))

  abbrev pub condition_type : Term → Result Ty Fault
  condition_type = wanted_type Int

  -- ---- aggregates and windows

  abbrev pub measure_type : AggregateFunction → Term → Result Ty Fault
  measure_type AggregateFunction.count argument = also (λ of. Int) (term_type argument)
  measure_type AggregateFunction.sum argument = condition_type argument
  measure_type AggregateFunction.min argument = term_type argument
  measure_type AggregateFunction.max argument = term_type argument

  abbrev pub aggregate_type : Aggregate → Result Ty Fault
  aggregate_type a = measure_type a.function a.argument

  -- one type of both
  abbrev pub both_type : Term → Term → Result Ty Fault
  both_type x y = typed (one_of (type_of_term columns answers x) (type_of_term columns answers y))

  abbrev pub function_type : WindowFunction → Result Ty Fault
  function_type (WindowFunction.aggregate a) = aggregate_type a
  function_type WindowFunction.row_number = Ok Int
  function_type WindowFunction.rank = Ok Int
  function_type WindowFunction.dense_rank = Ok Int
  function_type (WindowFunction.ntile n) = checked (nat_lt 0 n) BadFrame (Ok Int)
  function_type (WindowFunction.lag x n otherwise) = both_type x otherwise
  function_type (WindowFunction.lead x n otherwise) = both_type x otherwise
  function_type (WindowFunction.first_value x) = term_type x
  function_type (WindowFunction.last_value x) = term_type x
  function_type (WindowFunction.nth_value x n) = checked (nat_lt 0 n) BadFrame (term_type x)

  -- ORDER BY is one term, a whole number
  abbrev pub is_one_number : List SortTerm → Bool
  is_one_number (s ∷ []) = is_whole (type_of_term columns answers s.term)
  is_one_number _ = false

  abbrev pub unit_fits : List SortTerm → FrameUnit → Edge → Edge → Bool
  unit_fits order FrameUnit.rows start end = true
  unit_fits order FrameUnit.range start end = if is_distance start || is_distance end then is_one_number order else true
  unit_fits order FrameUnit.groups start end = nat_lt 0 (length order)

  abbrev pub is_frame : List SortTerm → Frame → Bool
  is_frame order frame =
      nat_lt (edge_rank frame.start) 4 && (nat_lt 0 (edge_rank frame.end) && (nat_le (edge_rank frame.start) (edge_rank frame.end)
      && unit_fits order frame.unit frame.start frame.end))

  -- the expressions of a window are of some types, and its frame is one that there can be
  abbrev pub window_types : Window → Result (List Ty) Fault
  window_types v =
      followed (each term_type v.partition) (λ _. followed (each (λ s. term_type s.term) v.order) (λ types.
      checked (is_frame v.order v.frame) BadFrame (Ok types)))

  abbrev pub call_type : WindowCall → Result Ty Fault
  call_type c = followed (window_types c.window) (λ _. function_type c.function)

-- ---- one SELECT

-- the types of the rows behind the groups, over those of FROM
abbrev pub grouped_types : List Ty → List Ty → Option Grouping → Result (List Ty) Fault
grouped_types answers row None = Ok row
grouped_types answers row (Some grouping) =
    followed (each (term_type answers row) grouping.by) (λ by.
    followed (each (aggregate_type answers row) grouping.aggregates) (λ aggregates.
    also (λ _. by ++ aggregates) (condition_type answers (by ++ aggregates) grouping.having)))

-- the types of the rows that result columns and ORDER BY speak of
abbrev pub computed_types : List Ty → List Ty → Select → Result (List Ty) Fault
computed_types answers row s =
    followed (condition_type answers row s.condition) (λ _.
    followed (grouped_types answers row s.grouping) (λ input.
    also (λ calls. input ++ calls) (each (call_type answers input) s.windows)))

abbrev pub select_types : List Ty → List Ty → Select → Result (List Ty) Fault
select_types answers row s = followed (computed_types answers row s) (λ computed. each (term_type answers computed) s.columns)

-- ---- queries

-- the SELECTs of a compound have one type for each column
abbrev pub one_types : List Ty → List Ty → Result (List Ty) Fault
one_types [] [] = Ok []
one_types (x ∷ xs) (y ∷ ys) = both ◌∷◌ (typed (one_type x y)) (one_types xs ys)
one_types _ _ = Err ColumnCount

-- the type of the one column
abbrev pub single_type : List Ty → Result Ty Fault
single_type (ty ∷ []) = Ok ty
single_type _ = Err ColumnCount

-- a table of so many columns
abbrev pub of_width : ℕ → List Ty → Result (List Ty) Fault
of_width width types = checked (nat_eq width (length types)) ColumnCount (Ok types)

-- over the types of the tables' columns
module _ (tables : List (List Ty)) where
  abbrev mutual
    pub source_types : Source → Result (List Ty) Fault
    source_types (Source.table at width) = followed (found_or TypeMismatch (slice_get tables at)) (of_width width)
    source_types Source.schema = Ok schema_types
    source_types (Source.derived body) = body_types body

    pub from_types : List Ty → From → Result (List Ty) Fault
    from_types answers From.nothing = Ok []
    from_types answers (From.joined from kind source on) =
        followed (from_types answers from) (λ left. followed (source_types source) (λ right.
        also (λ _. left ++ right) (condition_type answers (left ++ right) on)))
    from_types answers (From.with_inner from query) = from_types answers from

    pub inner_type : InnerQuery → Result Ty Fault
    inner_type (InnerQuery.values_of body) = followed (body_types body) single_type
    inner_type (InnerQuery.exists body) = also (λ types. Int) (body_types body)

    pub answer_types : From → Result (List Ty) Fault
    answer_types From.nothing = Ok []
    answer_types (From.joined from kind source on) = answer_types from
    answer_types (From.with_inner from query) = both (λ before ty. before ++ ty ∷ []) (answer_types from) (inner_type query)

    pub body_types : Body → Result (List Ty) Fault
    body_types (Body.select from s) =
        followed (answer_types from) (λ answers. followed (from_types answers from) (λ row. select_types answers row s))
    body_types (Body.compound left operator from s) =
        followed (body_types left) (λ first. followed (answer_types from) (λ answers. followed (from_types answers from) (λ row.
        followed (select_types answers row s) (one_types first))))

  -- a key is a result column, or a term over the rows of the one SELECT
  abbrev pub key_type : Body → List Ty → KeyTerm → Result Ty Fault
  key_type body types (KeyTerm.result at) = typed (slice_get types at)
  key_type (Body.select from s) types (KeyTerm.term t) =
      checked (not s.distinct) WrongPlace
      (followed (answer_types from) (λ answers. followed (from_types answers from) (λ row.
      followed (computed_types answers row s) (λ computed. term_type answers computed t))))
  key_type (Body.compound left operator from s) types (KeyTerm.term t) = Err WrongPlace

  abbrev pub query_types : QueryData → Result (List Ty) Fault
  query_types q = followed (body_types q.body) (λ types. also (λ _. types) (each (λ k. key_type q.body types k.by) q.order))
