-- What the plan of windows has and reaches. (Window Functions)
use Rattle.std.specs.Prelude.{◌≡◌, ◌⊎◌, ◌≤◌, ◌++◌, All, Any, Contains, false, ℕ, List, length, Option, IsPermutation}
use Rattle.std.specs.List.{AllZip}
use Rattle.values.specs.Database.{Database}
use Rattle.values.specs.Datum.{Datum}
use Rattle.values.specs.Row.{Row}
use Rattle.expr.specs.Filled.{filled}
use Rattle.expr.specs.Meaning.{run}
use Rattle.expr.specs.Term.{Term}
use Rattle.semantics.specs.Body.{answers_in, values_over, computed_rows}
use Rattle.semantics.specs.Body as body
use Rattle.semantics.specs.Groups.{grouped}
use Rattle.semantics.specs.Hits.{FromHits, SelectHits, where_rows}
use Rattle.semantics.specs.Query.{From, Select}
use Rattle.logical_plan_terms.specs.Over.{StandsOver}
use Rattle.logical_plan.specs.Plan.{Hits, PlanData, ReachesOverflow, rows_of, shown_rows}
use Rattle.logical_plan_terms.specs.window_plans.Windowed.{IsWindowedOver, windowed_columns}

-- the rows that windows take: those of FROM that WHERE keeps, or those of groups that HAVING keeps
abbrev pub windows_take : Datum → Database → From → Select → List Row
windows_take w db from s = grouped (values_over w db from) w s.grouping (where_rows w db from s)

-- at these places a plan has all values of the rows that windows take, in some order of the rows, beside a given number of inner queries
pub record HasTaken (w : Datum) (db : Database) (from : From) (s : Select) (inner : ℕ) (places : List ℕ) (plan : PlanData) : Type 0 where
  pub few : length (answers_in w db from) ≤ inner
  pub rows_are : IsPermutation (windows_take w db from s) (shown_rows places (rows_of w db plan))

-- then the plan of windows has the rows that the result columns are computed on, in some order
abbrev pub WindowedHasRows : Type 0
WindowedHasRows = (w : Datum) (db : Database) (from : From) (s : Select) (inner : ℕ) (places : List ℕ) (below plan : PlanData)
    → HasTaken w db from s inner places below → IsWindowedOver inner s.windows places below plan → IsPermutation (computed_rows w db from s) (rows_of w db plan)

-- an expression over the values of such a row says of it what its term says
abbrev pub WindowedSay : Type 0
WindowedSay = (w : Datum) (db : Database) (from : From) (s : Select) (width inner : ℕ) (e t : Term)
    → length (answers_in w db from) ≤ inner → All (λ row. length row ≡ width) (windows_take w db from s) → StandsOver (windowed_columns width s.windows) inner e t
    → (o : Option Datum) (row : Row) → Contains (computed_rows w db from s) row → run o row e ≡ run o row (filled (answers_in w db from) t)

-- where what is below hits nothing that FROM or the SELECT doesn't hit, the plan hits nothing else
abbrev pub WindowedIsHit : Type 0
WindowedIsHit = (w : Datum) (db : Database) (from : From) (s : Select) (terms : List Term) (inner : ℕ) (places : List ℕ) (below plan : PlanData)
    → HasTaken w db from s inner places below → IsWindowedOver inner s.windows places below plan
    → (Hits w db below → FromHits w db (answers_in w db from) from false ⊎ SelectHits w db from s terms) → Hits w db plan
    → FromHits w db (answers_in w db from) from false ⊎ SelectHits w db from s terms

-- nor do result columns and terms of ORDER BY on a row of the plan
abbrev pub WindowedColumnsAreHit : Type 0
WindowedColumnsAreHit = (w : Datum) (db : Database) (from : From) (s : Select) (terms es : List Term) (width inner : ℕ) (places : List ℕ) (below plan : PlanData)
    → HasTaken w db from s inner places below → All (λ row. length row ≡ width) (windows_take w db from s) → IsWindowedOver inner s.windows places below plan
    → AllZip (StandsOver (windowed_columns width s.windows) inner) es (s.columns ++ terms) → Any (ReachesOverflow es) (rows_of w db plan) → SelectHits w db from s terms
