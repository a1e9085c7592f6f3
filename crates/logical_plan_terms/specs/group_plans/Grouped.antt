-- The plan of a SELECT's groups over a plan of FROM and WHERE. (SELECT, "Generation of the set of result rows")
use Rattle.std.specs.Prelude.{◌≡◌, ◌+◌, All, ℕ, List, [], ◌∷◌, length}
use Rattle.std.specs.List.{AllZip, range_with_len}
use Rattle.expr.specs.Term.{Term}
use Rattle.semantics.specs.Query.{Aggregate, Grouping}
use Rattle.logical_plan_terms.specs.Over.{IsOver, StandsOver}
use Rattle.logical_plan.specs.Plan.{PlanData, grouped, kept}
use Rattle.windows_groups.specs.row_groups.GroupView.{GroupTermsData}

-- the places of the values of a group's row
abbrev pub group_columns : Grouping → List ℕ
group_columns g = range_with_len 0 (length g.by + length g.aggregates)

-- an aggregate over the columns that are read
pub record AggregateStandsOver (read : List ℕ) (inner : ℕ) (aggregate whole : Aggregate) : Type 0 where
  pub function : aggregate.function ≡ whole.function
  pub argument : StandsOver read inner aggregate.argument whole.argument

-- GROUP BY and the aggregates stand over the columns that are read, and HAVING over the values of a group's row
pub record IsOverGroups (read : List ℕ) (inner : ℕ) (g : Grouping) : Type 0 where
  pub by : All (IsOver read inner) g.by
  pub aggregates : All (λ (a : Aggregate). IsOver read inner a.argument) g.aggregates
  pub having : IsOver (group_columns g) inner g.having

-- the groups of the rows of a plan, of which these columns are read, that HAVING keeps
pub record IsGroupedOver (read : List ℕ) (inner : ℕ) (g : Grouping) (below plan : PlanData) : Type 0 where
  pub terms : GroupTermsData
  pub test : Term
  pub by_are : AllZip (StandsOver read inner) terms.by g.by
  pub aggregates_are : AllZip (AggregateStandsOver read inner) terms.aggregates g.aggregates
  pub having_is : StandsOver (group_columns g) inner test g.having
  pub plan_is : plan ≡ kept (grouped below terms) (test ∷ [])
