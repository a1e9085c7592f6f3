-- Queries as plain data, whose names are resolved to places. (SELECT)
use Rattle.std.specs.Prelude.{ℕ, ℤ, pos, ◌+◌, Bool, List, [], length, map, Option, None, false}
use Rattle.values.specs.Datum.{int, null}
use Rattle.expr.specs.Term.{Term, column, iif, literal}

-- a condition that every row keeps: WHERE, ON or HAVING, where none is written
abbrev pub always : Term
always = literal (int (pos 1))

-- ---- order

pub record Direction : Type 0 where
  pub descending : Bool
  pub nulls_first : Bool

pub record SortTerm : Type 0 where
  pub term : Term
  pub direction : Direction

-- ---- groups

pub data AggregateFunction : Type 0 where
  count sum min max : AggregateFunction

-- An aggregate takes the values of its argument that aren't NULL. `count(*)` counts a value that is never NULL, and an
-- aggregate with a FILTER is that of `filtered`.
pub record Aggregate : Type 0 where
  pub function : AggregateFunction
  pub argument : Term

-- the argument of an aggregate over the rows on which a condition is true: computed there alone, and NULL elsewhere
abbrev pub filtered : Term → Term → Term
filtered condition argument = iif condition argument (literal null)

-- GROUP BY, where none is written one group of all rows; the aggregates, in the order of their first mention; HAVING.
-- HAVING and what is computed after it speak of rows of the GROUP BY values and then the aggregates.
pub record Grouping : Type 0 where
  pub by : List Term
  pub aggregates : List Aggregate
  pub having : Term

-- ---- windows (Window Functions)

pub data FrameUnit : Type 0 where
  rows range groups : FrameUnit

pub data Edge : Type 0 where
  unbounded_preceding : Edge
  preceding : ℕ → Edge
  current_row : Edge
  following : ℕ → Edge
  unbounded_following : Edge

pub data Exclusion : Type 0 where
  no_others current group ties : Exclusion

pub record Frame : Type 0 where
  pub unit : FrameUnit
  pub start : Edge
  pub end : Edge
  pub exclude : Exclusion

pub record Window : Type 0 where
  pub partition : List Term
  pub order : List SortTerm
  pub frame : Frame

pub data WindowFunction : Type 0 where
  aggregate : Aggregate → WindowFunction
  row_number rank dense_rank : WindowFunction
  ntile : ℕ → WindowFunction
  -- the value, how many places before or after, and what stands where there is no such row
  lag : Term → ℕ → Term → WindowFunction
  lead : Term → ℕ → Term → WindowFunction
  first_value : Term → WindowFunction
  last_value : Term → WindowFunction
  nth_value : Term → ℕ → WindowFunction

pub record WindowCall : Type 0 where
  pub window : Window
  pub function : WindowFunction

-- ---- one SELECT, without its FROM

-- WHERE speaks of the rows of FROM. Windows speak of these, or of the rows of groups where there are groups; ORDER BY and
-- the result columns speak of the same rows, followed by the value of each window call.
pub record Select : Type 0 where
  pub condition : Term
  pub grouping : Option Grouping
  pub windows : List WindowCall
  pub columns : List Term
  pub distinct : Bool

-- SELECT of columns alone
abbrev pub of_columns : List Term → Select
of_columns columns = record { condition = always; grouping = None; windows = []; columns = columns; distinct = false }

pub data JoinKind : Type 0 where
  inner left right full : JoinKind

pub data Operator : Type 0 where
  union union_all intersect except : Operator

mutual
  -- a table of the catalog by its place, with the number of its columns; the table of the schema's rows; a subquery
  pub data Source : Type 0 where
    table : ℕ → ℕ → Source
    schema : Source
    derived : Body → Source

  -- Sources from left to right. ON speaks of the rows of the sources up to its own. A comma, CROSS JOIN and the first
  -- source are inner joins on `always`; USING is the equality of its columns.
  pub data From : Type 0 where
    nothing : From
    joined : From → JoinKind → Source → Term → From
    -- an inner query beside the sources: the terms of the SELECT name its answer by its place among the inner queries
    with_inner : From → InnerQuery → From

  -- the values of the one column of a query, as IN takes them; or whether a query has a row, as EXISTS does
  pub data InnerQuery : Type 0 where
    values_of : Body → InnerQuery
    exists : Body → InnerQuery

  pub data Body : Type 0 where
    select : From → Select → Body
    compound : Body → Operator → From → Select → Body

-- what ORDER BY puts rows in order by: a result column, or a term over the rows of the one SELECT
pub data KeyTerm : Type 0 where
  result : ℕ → KeyTerm
  term : Term → KeyTerm

pub record Key : Type 0 where
  pub by : KeyTerm
  pub direction : Direction

pub record QueryData : Type 0 where
  pub body : Body
  pub order : List Key
  pub limit : Option ℤ
  pub offset : ℤ

-- FROM of one source
abbrev pub only : Source → From
only source = joined nothing inner source always

-- ---- how many values rows have

abbrev mutual
  pub source_width : Source → ℕ
  source_width (table at width) = width
  source_width schema = 5
  source_width (derived body) = body_width body

  pub from_width : From → ℕ
  from_width nothing = 0
  from_width (joined from kind source on) = from_width from + source_width source
  from_width (with_inner from query) = from_width from

  pub body_width : Body → ℕ
  body_width (select from s) = length s.columns
  body_width (compound body operator from s) = body_width body

-- the table at a place of the catalog, of so many columns: SELECT of those at these places, in no order
abbrev pub columns_of_table : ℕ → ℕ → List ℕ → QueryData
columns_of_table at width places = record {
  body = select (only (table at width)) (of_columns (map column places));
  order = [];
  limit = None;
  offset = pos 0;
}
