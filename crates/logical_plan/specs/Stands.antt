-- The plan of a SELECT's FROM and WHERE. (SELECT, "Determination of input data" and "WHERE clause filtering")
use Rattle.std.specs.Prelude.{◌≡◌, ◌<◌, All, ℕ, List, [], ◌∷◌, ◌++◌, false, if◌then◌else◌, map, Option, IsPermutation, None}
use Rattle.std.specs.List.{AllZip, range_with_len}
use Rattle.values.specs.Database.{Database}
use Rattle.values.specs.Datum.{Datum}
use Rattle.values.specs.Row.{Row}
use Rattle.expr.specs.Columns.{columns_of}
use Rattle.expr.specs.Conjuncts.{conjuncts}
use Rattle.expr.specs.Filled.{filled}
use Rattle.expr.specs.Meaning.{run}
use Rattle.expr.specs.Term.{Term}
use Rattle.semantics.specs.Body.{answers_in}
use Rattle.semantics.specs.Hits.{SelectHits, where_rows}
use Rattle.semantics.specs.OneTable.{shown}
use Rattle.semantics.specs.Query.{From, Select, only, table}
use Rattle.semantics.specs.Valuation.{kept, with_answers}
use Rattle.logical_plan.specs.Plan.{Hits, PlanData, are_true, joined, once, rows_of, table_size, work, TreeSizes}

-- An expression over the columns that are read is one over all of them: both are the same on each row, also in whether
-- they have a value.
abbrev pub StandsFor : List ℕ → Term → Term → Type 0
StandsFor columns term whole = (o : Option Datum) (row : Row) → run o (shown columns row) term ≡ run o row whole

-- an expression over rows of so many columns stands for itself where all of these are read
abbrev pub StandsForItself : Type 0
StandsForItself = (width : ℕ) (t : Term) → All (λ at. at < width) (columns_of t) → StandsFor (range_with_len 0 width) t t

-- the tests stand for conditions, one by one
abbrev pub AreTestsOf : List ℕ → List Term → List Term → Type 0
AreTestsOf columns tests conditions = AllZip (StandsFor columns) tests conditions

-- The conjuncts of a condition, split into tests that need no column and tests over the columns that are read.
pub record IsSplitCondition (columns : List ℕ) (condition : Term) (constants tests : List Term) : Type 0 where
  pub bare : List Term
  pub others : List Term
  pub same : IsPermutation (conjuncts condition) (bare ++ others)
  pub constants_are : AreTestsOf [] constants bare
  pub tests_are : AreTestsOf columns tests others

-- the rows of a plan on which these conditions are true
abbrev pub tested : List Term → PlanData → PlanData
tested [] plan = plan
tested (test ∷ tests) plan = PlanData.kept plan (test ∷ tests)

-- one row of no values, where these conditions are true
abbrev pub tested_once : List Term → PlanData
tested_once tests = tested tests once

-- The plan of one table: what needs no column is tested before the table is read.
abbrev pub one_table : ℕ → List ℕ → List Term → List Term → PlanData
one_table at columns constants tests =
    joined (tested_once constants) (record { table = at; columns = columns; tests = tests; padded = false; search = None })

-- a SELECT's condition, where its inner queries have been answered
abbrev pub condition_of : Datum → Database → From → Select → Term
condition_of w db from s = filled (answers_in w db from) s.condition

-- of a plan that has the rows of a FROM, the rows on which tests are true are those that the condition keeps
abbrev pub KeptIsWhere : Type 0
KeptIsWhere = (w : Datum) (db : Database) (answers : List (List Datum)) (columns : List ℕ) (below : PlanData) (rows : List Row) (condition : Term) (tests : List Term)
    → rows_of w db below ≡ map (shown columns) rows → AreTestsOf columns tests (conjuncts (filled answers condition))
    → rows_of w db (PlanData.kept below tests) ≡ map (shown columns) (kept (with_answers w answers) condition rows)

-- without FROM the plan has the one row where the condition is true
abbrev pub NothingIsWhere : Type 0
NothingIsWhere = (w : Datum) (db : Database) (s : Select) (tests : List Term)
    → AreTestsOf [] tests (conjuncts (condition_of w db From.nothing s))
    → rows_of w db (tested_once tests) ≡ where_rows w db From.nothing s

-- the plan of one table has the rows of FROM that WHERE keeps, in the table's order
abbrev pub OneTableIsWhere : Type 0
OneTableIsWhere = (w : Datum) (db : Database) (s : Select) (at width : ℕ) (columns : List ℕ) (constants tests : List Term)
    → IsSplitCondition columns (condition_of w db (only (table at width)) s) constants tests
    → rows_of w db (one_table at columns constants tests) ≡ map (shown columns) (where_rows w db (only (table at width)) s)

-- what it hits, the SELECT hits
abbrev pub OneTableHits : Type 0
OneTableHits = (w : Datum) (db : Database) (s : Select) (terms : List Term) (at width : ℕ) (columns : List ℕ) (constants tests : List Term)
    → IsSplitCondition columns (condition_of w db (only (table at width)) s) constants tests
    → Hits w db (one_table at columns constants tests) → SelectHits w db (only (table at width)) s terms

-- its work is the pages of the table's tree, and nothing where what needs no column isn't true
abbrev pub OneTableWorks : Type 0
OneTableWorks = (w : Datum) (db : Database) (sizes : List TreeSizes) (at : ℕ) (columns : List ℕ) (constants tests : List Term)
    → work w db sizes (one_table at columns constants tests) ≡ (if are_true w constants [] then table_size sizes at else 0)
