-- What has no value on a row that is really there is among what a statement is said to reach, for each place where an
-- expression stands.
use Rattle.std.specs.Prelude.{◌≡◌, ℕ, Bool, Contains, List, ◌++◌, flat_map, Some, None}
use Rattle.values.specs.Database.{Database}
use Rattle.values.specs.Datum.{Datum}
use Rattle.values.specs.Row.{Row}
use Rattle.expr.specs.Filled.{filled}
use Rattle.expr.specs.Meaning.{exact}
use Rattle.expr.specs.Term.{Term}
use Rattle.semantics.specs.Query.{Aggregate, From, Grouping, JoinKind, Select, Source, WindowCall, joined}
use Rattle.semantics.specs.Valuation.{Valuation}
use Rattle.semantics.specs.Groups.{Group, aggregate_result, group_rows, grouped, groups}
use Rattle.semantics.specs.Windows.{call_result, numbered}
use Rattle.semantics.specs.Body.{answers_in, from_rows, rows_of, select_rows, source_rows, values_over}
use Rattle.semantics.specs.Hits.{FromHits, SelectHits, call_terms, grouping_terms, where_rows}

-- ON, on a row of the sources to its left beside a row of its source
abbrev pub OnIsHit : Datum → Database → Type 0
OnIsHit w db = (value : Valuation) (answers : List (List Datum)) (from : From) (kind : JoinKind) (source : Source) (on : Term) (padded : Bool) (l r : Row)
    → Contains (from_rows w db value from) l → Contains (source_rows w db source) r → exact (filled answers on) (l ++ r) ≡ None
    → FromHits w db answers (joined from kind source on) padded

-- the SELECT, and the terms of ORDER BY that stand over it
module _ (w : Datum) (db : Database) (from : From) (s : Select) (terms : List Term) where
  -- an expression of the SELECT has no value on a row
  abbrev pub HasNoValue : Term → Row → Type 0
  HasNoValue t row = exact (filled (answers_in w db from) t) row ≡ None

  -- the rows that windows take
  abbrev pub input_rows : List Row
  input_rows = grouped (values_over w db from) w s.grouping (where_rows w db from s)

  abbrev pub WhereIsHit : Type 0
  WhereIsHit = (row : Row) → Contains (rows_of w db from) row → HasNoValue s.condition row → SelectHits w db from s terms

  -- GROUP BY and the arguments of aggregates, on a row that WHERE keeps
  abbrev pub GroupIsHit : Type 0
  GroupIsHit = (g : Grouping) (row : Row) (t : Term) → s.grouping ≡ Some g → Contains (where_rows w db from s) row → Contains (grouping_terms g) t
      → HasNoValue t row → SelectHits w db from s terms

  -- the number of an aggregate, of a group
  abbrev pub AggregateIsHit : Type 0
  AggregateIsHit = (g : Grouping) (group : Group) (a : Aggregate) → s.grouping ≡ Some g
      → Contains (groups (values_over w db from) g.by (where_rows w db from s)) group → Contains g.aggregates a
      → aggregate_result (values_over w db from) None a group.members ≡ None → SelectHits w db from s terms

  abbrev pub HavingIsHit : Type 0
  HavingIsHit = (g : Grouping) (row : Row) → s.grouping ≡ Some g → Contains (group_rows (values_over w db from) w g (where_rows w db from s)) row
      → HasNoValue g.having row → SelectHits w db from s terms

  -- PARTITION BY, ORDER BY and the arguments of windows
  abbrev pub WindowIsHit : Type 0
  WindowIsHit = (row : Row) (t : Term) → Contains input_rows row → Contains (flat_map call_terms s.windows) t → HasNoValue t row → SelectHits w db from s terms

  -- the number of a window function, at a row
  abbrev pub WindowNumberIsHit : Type 0
  WindowNumberIsHit = (call : WindowCall) (r : Row × ℕ) → Contains s.windows call → Contains (numbered input_rows) r
      → call_result (values_over w db from) None call input_rows r ≡ None → SelectHits w db from s terms

  -- a result column, or a term of ORDER BY
  abbrev pub ColumnIsHit : Type 0
  ColumnIsHit = (row : Row) (t : Term) → Contains (select_rows (values_over w db from) w s (rows_of w db from)) row → Contains (s.columns ++ terms) t
      → HasNoValue t row → SelectHits w db from s terms
