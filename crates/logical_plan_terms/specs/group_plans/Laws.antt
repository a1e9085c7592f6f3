-- What the plan of groups has and reaches. (SELECT, "Generation of the set of result rows")
use Rattle.std.specs.Prelude.{◌≡◌, ◌⊎◌, ◌≤◌, ◌++◌, Any, Contains, false, ℕ, List, [], length, map, Option, Some, IsPermutation}
use Rattle.std.specs.List.{AllZip}
use Rattle.values.specs.Database.{Database}
use Rattle.values.specs.Datum.{Datum}
use Rattle.values.specs.Row.{Row}
use Rattle.expr.specs.Filled.{filled}
use Rattle.expr.specs.Meaning.{run}
use Rattle.expr.specs.Term.{Term}
use Rattle.semantics.specs.Body.{answers_in, values_over}
use Rattle.semantics.specs.Groups.{kept_groups}
use Rattle.semantics.specs.Hits.{FromHits, SelectHits, where_rows}
use Rattle.semantics.specs.Query.{From, Grouping, Select}
use Rattle.logical_plan_terms.specs.Over.{StandsOver}
use Rattle.logical_plan.specs.Plan.{Hits, PlanData, ReachesOverflow, rows_of}
use Rattle.logical_plan_terms.specs.group_plans.Grouped.{IsGroupedOver, group_columns}

-- A plan's rows are, in some order, what is seen of those of FROM that WHERE keeps, and an expression over the columns that are
-- read says of what is seen of a row what its term says of the row.
pub record SeesWhere (w : Datum) (db : Database) (from : From) (s : Select) (read : List ℕ) (inner : ℕ) (plan : PlanData) : Type 0 where
  pub seen : Row → Row
  pub few : length (answers_in w db from) ≤ inner
  pub rows_are : IsPermutation (map seen (where_rows w db from s)) (rows_of w db plan)
  pub says : (e t : Term) → StandsOver read inner e t → (o : Option Datum) (row : Row) → Contains (where_rows w db from s) row
      → run o (seen row) e ≡ run o row (filled (answers_in w db from) t)

-- the rows of groups that HAVING keeps
abbrev pub group_rows_kept : Datum → Database → From → Select → Grouping → List Row
group_rows_kept w db from s g = kept_groups (values_over w db from) w g (where_rows w db from s)

-- the plan has them, in some order
abbrev pub GroupedHasRows : Type 0
GroupedHasRows = (w : Datum) (db : Database) (from : From) (s : Select) (g : Grouping) (read : List ℕ) (inner : ℕ) (below plan : PlanData)
    → SeesWhere w db from s read inner below → IsGroupedOver read inner g below plan
    → IsPermutation (group_rows_kept w db from s g) (rows_of w db plan)

-- an expression over a group's row says of it what its term says
abbrev pub GroupedSay : Type 0
GroupedSay = (w : Datum) (db : Database) (from : From) (s : Select) (g : Grouping) (inner : ℕ) (e t : Term)
    → length (answers_in w db from) ≤ inner → StandsOver (group_columns g) inner e t
    → (o : Option Datum) (row : Row) → Contains (group_rows_kept w db from s g) row → run o row e ≡ run o row (filled (answers_in w db from) t)

-- where what is below hits nothing that FROM or the SELECT doesn't hit, the plan hits nothing else
abbrev pub GroupedIsHit : Type 0
GroupedIsHit = (w : Datum) (db : Database) (from : From) (s : Select) (g : Grouping) (terms : List Term) (read : List ℕ) (inner : ℕ) (below plan : PlanData)
    → s.grouping ≡ Some g → SeesWhere w db from s read inner below → IsGroupedOver read inner g below plan
    → (Hits w db below → FromHits w db (answers_in w db from) from false ⊎ SelectHits w db from s terms) → Hits w db plan
    → FromHits w db (answers_in w db from) from false ⊎ SelectHits w db from s terms

-- nor do result columns and terms of ORDER BY on a row of the plan
abbrev pub GroupedColumnsAreHit : Type 0
GroupedColumnsAreHit = (w : Datum) (db : Database) (from : From) (s : Select) (g : Grouping) (terms es : List Term) (read : List ℕ) (inner : ℕ) (below plan : PlanData)
    → s.grouping ≡ Some g → s.windows ≡ [] → SeesWhere w db from s read inner below → IsGroupedOver read inner g below plan
    → AllZip (StandsOver (group_columns g) inner) es (s.columns ++ terms) → Any (ReachesOverflow es) (rows_of w db plan) → SelectHits w db from s terms
