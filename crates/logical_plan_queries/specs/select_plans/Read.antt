-- The columns that a query reads of the rows of FROM.
use Rattle.std.specs.Prelude.{◌≡◌, ◌↔◌, Bool, true, false, Contains, ℕ, List, [], ◌∷◌, ◌++◌, flat_map, Option, Some, None}
use Rattle.std.specs.List.{range_with_len}
use Rattle.values.specs.Database.{Database}
use Rattle.expr.specs.Columns.{columns_of}
use Rattle.expr.specs.Term.{Term}
use Rattle.semantics.specs.Hits.{grouping_terms, order_terms}
use Rattle.semantics.specs.Query.{From, Grouping, Key, Select, WindowCall, from_width}
use Rattle.logical_plan.specs.JoinPlan.{AreWide, AreWideBefore}
use Rattle.logical_plan_terms.specs.table_plans.Planned.{on_terms}

-- what is computed on the rows of FROM behind WHERE: GROUP BY and the arguments of aggregates where there are groups, else these
abbrev pub row_terms : Option Grouping → List Term → List Term
row_terms None terms = terms
row_terms (Some g) terms = grouping_terms g

-- what is computed on the rows of FROM: WHERE, and then groups, or the result columns and the terms of ORDER BY
abbrev pub select_terms : Select → List Key → List Term
select_terms s order = s.condition ∷ row_terms s.grouping (s.columns ++ order_terms order)

-- and what stands behind each ON
abbrev pub terms_in : From → Select → List Key → List Term
terms_in from s order = select_terms s order ++ on_terms from

-- exactly the columns that these terms name are read
abbrev pub AreRead : List ℕ → List Term → Type 0
AreRead read terms = (at : ℕ) → Contains read at ↔ Contains (flat_map columns_of terms) at

-- Windows take the rows of FROM themselves where there are no groups. Rows that ORDER BY of a window doesn't tell apart stand in the
-- order of all their values, so that each column is read then.
abbrev pub reads_all : List WindowCall → Option Grouping → Bool
reads_all [] grouping = false
reads_all (call ∷ calls) None = true
reads_all (call ∷ calls) (Some g) = false

abbrev pub IsReadBy : Bool → From → List Term → List ℕ → Type 0
IsReadBy true from terms read = read ≡ range_with_len 0 (from_width from)
IsReadBy false from terms read = AreRead read terms

-- each column of the rows of FROM is read where windows take these, elsewhere exactly those that are named
abbrev pub IsReadOf : From → Select → List Key → List ℕ → Type 0
IsReadOf from s order read = IsReadBy (reads_all s.windows s.grouping) from (terms_in from s order) read

abbrev pub IsWideBy : Bool → Database → From → Type 0
IsWideBy true db from = AreWide db from
IsWideBy false db from = AreWideBefore db from

-- The rows of each table that another source stands behind have as many values as it has columns; where windows take the rows of FROM,
-- so do those of the last.
abbrev pub IsWideOf : Database → From → Select → Type 0
IsWideOf db from s = IsWideBy (reads_all s.windows s.grouping) db from
