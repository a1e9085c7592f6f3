-- What a plan of windows has. (Window Functions)
use Rattle.std.specs.Prelude.{◌≡◌, ◌++◌, ℕ, List, length}
use Rattle.std.specs.List.{AllZip}
use Rattle.values.specs.Database.{Database}
use Rattle.values.specs.Datum.{Datum}
use Rattle.values.specs.Row.{Row}
use Rattle.semantics.specs.Query.{WindowCall}
use Rattle.logical_plan.specs.Plan.{PlanData, rows_of, shown_rows, windowed}

-- a row with so many values behind it
pub record IsExtended (count : ℕ) (row whole : Row) : Type 0 where
  pub values : Row
  pub size : length values ≡ count
  pub whole_is : whole ≡ row ++ values

-- its rows are those below, in their order: of each the values at these places, and a value after them for each call
abbrev pub WindowedInOrder : Type 0
WindowedInOrder = (w : Datum) (db : Database) (below : PlanData) (places : List ℕ) (calls : List WindowCall)
    → AllZip (IsExtended (length calls)) (shown_rows places (rows_of w db below)) (rows_of w db (windowed below places calls))
