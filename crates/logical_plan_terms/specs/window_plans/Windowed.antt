-- The plan of a SELECT's windows over a plan of the rows that they take. (Window Functions)
use Rattle.std.specs.Prelude.{◌≡◌, ◌≤◌, ◌+◌, All, ℕ, List, length, map}
use Rattle.std.specs.List.{range_with_len}
use Rattle.values.specs.Datum.{Datum}
use Rattle.expr.specs.Filled.{filled}
use Rattle.expr.specs.Leaves.{place_in}
use Rattle.semantics.specs.Hits.{function_terms}
use Rattle.semantics.specs.Query.{Aggregate, SortTerm, Window, WindowCall, WindowFunction}
use Rattle.logical_plan_terms.specs.Over.{IsOver}
use Rattle.logical_plan.specs.Plan.{PlanData, windowed}
use Rattle.semantics.specs.Mapped.{mapped_aggregate, mapped_call, mapped_function, mapped_sort, mapped_window}

-- the places of the values of a row of so many values, and of those of calls behind them
abbrev pub windowed_columns : ℕ → List WindowCall → List ℕ
windowed_columns width calls = range_with_len 0 (width + length calls)

-- where each column is among these, in the order in which they are written
abbrev pub written_places : List ℕ → List ℕ
written_places read = map (place_in read) (range_with_len 0 (length read))

-- PARTITION BY and ORDER BY stand over the columns that are read
pub record IsOverWindow (columns : List ℕ) (inner : ℕ) (window : Window) : Type 0 where
  pub partition : All (IsOver columns inner) window.partition
  pub order : All (λ (s : SortTerm). IsOver columns inner s.term) window.order

-- and so do the arguments
pub record IsOverCall (columns : List ℕ) (inner : ℕ) (call : WindowCall) : Type 0 where
  pub window : IsOverWindow columns inner call.window
  pub function : All (IsOver columns inner) (function_terms call.function)

-- each expression of it stands for itself, whatever so many inner queries answer
abbrev pub AggregateIsItself : ℕ → Aggregate → Aggregate → Type 0
AggregateIsItself inner aggregate whole = (answers : List (List Datum)) → length answers ≤ inner → aggregate ≡ mapped_aggregate (filled answers) whole

abbrev pub FunctionIsItself : ℕ → WindowFunction → WindowFunction → Type 0
FunctionIsItself inner function whole = (answers : List (List Datum)) → length answers ≤ inner → function ≡ mapped_function (filled answers) whole

abbrev pub SortsAreThemselves : ℕ → List SortTerm → List SortTerm → Type 0
SortsAreThemselves inner sorts wholes = (answers : List (List Datum)) → length answers ≤ inner → sorts ≡ map (mapped_sort (filled answers)) wholes

abbrev pub WindowIsItself : ℕ → Window → Window → Type 0
WindowIsItself inner window whole = (answers : List (List Datum)) → length answers ≤ inner → window ≡ mapped_window (filled answers) whole

abbrev pub CallIsItself : ℕ → WindowCall → WindowCall → Type 0
CallIsItself inner call whole = (answers : List (List Datum)) → length answers ≤ inner → call ≡ mapped_call (filled answers) whole

abbrev pub CallsAreThemselves : ℕ → List WindowCall → List WindowCall → Type 0
CallsAreThemselves inner calls wholes = (answers : List (List Datum)) → length answers ≤ inner → calls ≡ map (mapped_call (filled answers)) wholes

-- the values of the rows of a plan at these places, with those of these calls after them
pub record IsWindowedOver (inner : ℕ) (wholes : List WindowCall) (places : List ℕ) (below plan : PlanData) : Type 0 where
  pub calls : List WindowCall
  pub calls_are : CallsAreThemselves inner calls wholes
  pub plan_is : plan ≡ windowed below places calls
