-- What was computed of the queries in a query. (SELECT, "Determination of input data"; SQL Language Expressions, "The IN and NOT IN
-- Operators", "The EXISTS Operator")
use Rattle.std.specs.Prelude.{◌≡◌, ◌+◌, ◌++◌, List, length, map, IsPermutation}
use Rattle.std.specs.List.{AllZip}
use Rattle.values.specs.Database.{Database}
use Rattle.values.specs.Datum.{Datum}
use Rattle.values.specs.Row.{Row}
use Rattle.semantics.specs.Body.{answer_of, body_rows, one_if_some, source_rows}
use Rattle.semantics.specs.Query.{InnerQuery, Source, exists, values_of}
use Rattle.operators_runs.specs.inner_rows.InnerView.{InnerData}

-- as many rows and values were put behind others as there are of these sources and queries
pub record AddsAsMany (sources : List Source) (queries : List InnerQuery) (old new : InnerData) : Type 0 where
  pub kept : length new.kept ≡ length old.kept + length sources
  pub answers : length new.answers ≡ length old.answers + length queries

-- these are some where those are some
abbrev pub AreSomeWhere : List Row → List Row → Type 0
AreSomeWhere those these = one_if_some those ≡ one_if_some these

module _ (w : Datum) (db : Database) where
  -- The values of a query can be told from these rows: behind IN they are its rows, in whichever order; behind EXISTS they are some
  -- where it has some.
  abbrev pub AreRowsFor : InnerQuery → List Row → Type 0
  AreRowsFor (values_of body) rows = IsPermutation (body_rows w db body) rows
  AreRowsFor (exists body) rows = AreSomeWhere (body_rows w db body) rows

  -- the rows of each of these sources, and the values of each of these queries, of each in whichever order
  pub record AreComputedRows (sources : List Source) (queries : List InnerQuery) (inner : InnerData) : Type 0 where
    pub kept : AllZip IsPermutation (map (source_rows w db) sources) inner.kept
    pub answers : AllZip IsPermutation (map (answer_of w db) queries) inner.answers

  -- those of these were put behind those of any others
  abbrev pub AddsRows : List Source → List InnerQuery → InnerData → InnerData → Type 0
  AddsRows sources queries old new = (before : List Source) (asked : List InnerQuery) → AreComputedRows before asked old
      → AreComputedRows (before ++ sources) (asked ++ queries) new
