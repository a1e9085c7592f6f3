-- How the plan is made of a SELECT that stands on tables that are joined, or on none.
use Rattle.std.specs.Prelude.{◌≡◌, ⊤, ℕ, List, [], ◌∷◌, length, Option, Some, None}
use Rattle.std.specs.List.{AllZip}
use Rattle.expr.specs.Term.{Term}
use Rattle.logical_plan_terms.specs.group_plans.Grouped.{IsGroupedOver, IsOverGroups, group_columns}
use Rattle.semantics.specs.Query.{Grouping, Key, Select, WindowCall}
use Rattle.logical_plan_terms.specs.Over.{StandsOver}
use Rattle.logical_plan.specs.Plan.{PlanData}
use Rattle.logical_plan_queries.specs.select_plans.Read.{IsReadOf}
use Rattle.logical_plan_terms.specs.declared.table_plans.inputs.Input.{Input}
use Rattle.logical_plan_terms.specs.table_plans.Input.{input_from}
use Rattle.logical_plan_terms.specs.table_plans.Planned.{IsPlanOver}
use Rattle.logical_plan_terms.specs.window_plans.Windowed.{IsWindowedOver, windowed_columns, written_places}

-- the terms of groups, where there are some, stand over the columns that are read of the rows below
abbrev pub StandsOverRows : List ℕ → Option Grouping → Type 0
StandsOverRows read None = ⊤
StandsOverRows read (Some g) = IsOverGroups read 0 g

-- over a plan of which these columns are read, the plan of the rows that windows take, or result columns where there are none, and the
-- columns of these: it is the same, or that of groups that HAVING keeps
abbrev pub IsOverRows : List ℕ → Option Grouping → PlanData → List ℕ → PlanData → Type 0
IsOverRows read None below known plan = (known ≡ read) × (plan ≡ below)
IsOverRows read (Some g) below known plan = (known ≡ group_columns g) × IsGroupedOver read 0 g below plan

-- over such a plan, the plan of the rows that result columns are computed on, and the columns of these: it is the same, or that with
-- the values of calls over windows after each row, whose columns then are in the order in which they are written
abbrev pub IsOverWindows : List WindowCall → List ℕ → PlanData → List ℕ → PlanData → Type 0
IsOverWindows [] taken below known plan = (known ≡ taken) × (plan ≡ below)
IsOverWindows (call ∷ calls) taken below known plan =
    (known ≡ windowed_columns (length taken) (call ∷ calls)) × IsWindowedOver 0 (call ∷ calls) (written_places taken) below plan

-- a plan of FROM and WHERE, one of the rows that windows take over it, one of the rows that result columns are computed on over that,
-- and result columns over these
pub record IsMadeOver (input : Input) (s : Select) (order : List Key) (plan : PlanData) (es : List Term) : Type 0 where
  pub read : List ℕ
  pub are_read : IsReadOf (input_from input) s order read
  pub below : PlanData
  pub below_is : IsPlanOver input read s.condition below
  pub taken : List ℕ
  pub inputs : PlanData
  pub inputs_are : IsOverRows read s.grouping below taken inputs
  pub columns : List ℕ
  pub rows_are : IsOverWindows s.windows taken inputs columns plan
  pub columns_are : AllZip (StandsOver columns 0) es s.columns
