-- Which typed queries are served.
use Rattle.std.specs.Prelude.{List}
use Rattle.values.specs.declared.value.Ty.{Ty}
use Rattle.semantics.specs.Query.{QueryData}
use Rattle.semantics.specs.Typed.{IsTyped}
use Rattle.logical_plan_queries.specs.Served.{HaveServedForm, IsServed}

-- those of which each SELECT stands on tables that are joined, or on none
abbrev pub TypedIsServed : Type 0
TypedIsServed = (catalog : List (List Ty)) (query : QueryData) → IsTyped catalog query → HaveServedForm query.body → IsServed query
