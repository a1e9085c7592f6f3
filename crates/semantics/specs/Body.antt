-- What a query computes before its rows are put in order. (SELECT, "Simple Select Processing")
--
-- A bag is a list, and two bags are equal where one list is a permutation of the other. `w` stands for each result
-- that leaves 64 bits: what a query means is said for every such value.
use Rattle.std.specs.Prelude.{pos, Bool, true, false, if◌then◌else◌, List, [], ◌∷◌, ◌++◌, map, slice_index_or, IsPermutation}
use Rattle.std.specs.List.{AllZip}
use Rattle.values.specs.Datum.{Datum, int}
use Rattle.semantics.specs.Query.{Body, From, InnerQuery, Key, KeyTerm, QueryData, Select, Source, compound, derived, from_width, joined, nothing, schema, select, source_width, table, values_of, exists, with_inner}
use Rattle.values.specs.Row.{Row}
use Rattle.values.specs.Database.{Database}
use Rattle.semantics.specs.Sequence.{value_at}
use Rattle.semantics.specs.Valuation.{Valuation, term_values, kept, meets, with_answers}
use Rattle.semantics.specs.Times.{combined, once}
use Rattle.semantics.specs.Joins.{join}
use Rattle.semantics.specs.Groups.{grouped}
use Rattle.semantics.specs.Windows.{windowed}

-- the same rows in other orders
pub record SameTables (db other : Database) : Type 0 where
  pub schema : IsPermutation db.schema other.schema
  pub tables : AllZip IsPermutation db.tables other.tables

-- the rows that the result columns are computed on, from those of FROM
abbrev pub select_rows : Valuation → Datum → Select → List Row → List Row
select_rows value w s rows = windowed value w s.windows (grouped value w s.grouping (kept value s.condition rows))

abbrev pub distinct : Bool → List Row → List Row
distinct true rows = once rows
distinct false rows = rows

-- the result rows of one SELECT
abbrev pub results : Valuation → Datum → Select → List Row → List Row
results value w s rows = distinct s.distinct (map (term_values value s.columns) (select_rows value w s rows))

-- a 1 where there is a row
abbrev pub one_if_some : List Row → List Datum
one_if_some [] = []
one_if_some (row ∷ rows) = int (pos 1) ∷ []

module _ (w : Datum) (db : Database) where
  abbrev mutual
    pub source_rows : Source → List Row
    source_rows (table at width) = slice_index_or db.tables at []
    source_rows schema = db.schema
    source_rows (derived body) = body_rows body

    -- ON takes these values; without FROM there is one row, of no values
    pub from_rows : Valuation → From → List Row
    from_rows value nothing = [] ∷ []
    from_rows value (joined from kind source on) =
        join kind (from_width from) (source_width source) (meets value on) (from_rows value from) (source_rows source)
    from_rows value (with_inner from query) = from_rows value from

    -- an inner query is answered once
    pub answer_of : InnerQuery → List Datum
    answer_of (values_of body) = map (λ row. value_at row 0) (body_rows body)
    answer_of (exists body) = one_if_some (body_rows body)

    -- the answers of the inner queries beside these sources
    pub answers_in : From → List (List Datum)
    answers_in nothing = []
    answers_in (joined from kind source on) = answers_in from
    answers_in (with_inner from query) = answers_in from ++ answer_of query ∷ []

    pub body_rows : Body → List Row
    body_rows (select from s) =
        let value = with_answers w (answers_in from) in results value w s (from_rows value from)
    body_rows (compound body operator from s) =
        let value = with_answers w (answers_in from) in combined operator (body_rows body) (results value w s (from_rows value from))

  -- the values of the expressions of a SELECT with this FROM
  abbrev pub values_over : From → Valuation
  values_over from = with_answers w (answers_in from)

  -- the rows of FROM
  abbrev pub rows_of : From → List Row
  rows_of from = from_rows (values_over from) from

  -- the rows that the result columns of a SELECT are computed on
  abbrev pub computed_rows : From → Select → List Row
  computed_rows from s = select_rows (values_over from) w s (rows_of from)

-- a result row, and the values that ORDER BY puts it in order by
pub record Output : Type 0 where
  pub row : Row
  pub keys : Row

-- the value of a key: of a result row, and of the row that it was computed on, if it is one SELECT's
abbrev pub key_value : Valuation → Row → Row → Key → Datum
key_value value shown row key = of key.by
  where
    of : KeyTerm → Datum
    of (KeyTerm.result at) = value_at shown at
    of (KeyTerm.term t) = value t row

abbrev pub output : Valuation → List Key → Row → Row → Output
output value order shown row = record { row = shown; keys = map (key_value value shown row) order }

-- result rows that stand for no one row
abbrev pub plain_outputs : Valuation → List Key → List Row → List Output
plain_outputs value order rows = map (λ shown. output value order shown []) rows

abbrev pub select_outputs : Valuation → Datum → List Key → Select → List Row → List Output
select_outputs value w order s rows = map (λ row. output value order (term_values value s.columns row) row) (select_rows value w s rows)

-- the bag of result rows, each with its ORDER BY values
abbrev pub outputs : Datum → Database → List Key → Body → List Output
outputs w db order (select from s) =
    let value = values_over w db from in
    if s.distinct then plain_outputs value order (body_rows w db (select from s)) else select_outputs value w order s (rows_of w db from)
outputs w db order (compound body operator from s) =
    plain_outputs (values_over w db from) order (body_rows w db (compound body operator from s))

abbrev pub body : Datum → Database → QueryData → List Output
body w db query = outputs w db query.order query.body
