-- Which queries are served. (SELECT)
use Rattle.std.specs.Prelude.{◌≡◌, true, List}
use Rattle.logical_plan_queries.specs.compound_plans.Arms.{AreServed}
use Rattle.logical_plan.specs.answers.Permitted.{AreResults}
use Rattle.semantics.specs.Hits.{order_terms}
use Rattle.semantics.specs.Query.{Body, From, Key, QueryData, Select, compound, select}
use Rattle.logical_plan_queries.specs.select_plans.Served.{IsServedFrom, IsServedSelect}

-- One SELECT of tables that are joined or of none. Behind groups and windows HAVING, calls, the result columns and ORDER BY name values
-- of the rows alone that they are computed on; behind DISTINCT, ORDER BY names result columns alone.
pub record IsServedAlone (order : List Key) (from : From) (s : Select) : Type 0 where
  pub served : IsServedSelect from s (order_terms order)
  pub ordered : s.distinct ≡ true → AreResults order

-- Several that are joined, each of which is such a SELECT. Behind them, ORDER BY names result columns alone.
pub record AreServedTogether (order : List Key) (body : Body) : Type 0 where
  pub each : AreServed body
  pub ordered : AreResults order

abbrev pub IsServedBody : List Key → Body → Type 0
IsServedBody order (select from s) = IsServedAlone order from s
IsServedBody order (compound body operator from s) = AreServedTogether order (compound body operator from s)

-- each typed query is so whose SELECTs have this form
abbrev pub IsServed : QueryData → Type 0
IsServed query = IsServedBody query.order query.body

-- each SELECT of a body stands on tables that are joined, or on none
abbrev pub HaveServedForm : Body → Type 0
HaveServedForm (select from s) = IsServedFrom from
HaveServedForm (compound body operator from s) = HaveServedForm body × IsServedFrom from
