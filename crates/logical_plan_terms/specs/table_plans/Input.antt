-- What a SELECT stands on, and what is seen of its rows. (SELECT, "Determination of input data")
use Rattle.std.specs.Prelude.{ℕ, List, map}
use Rattle.values.specs.Row.{Row}
use Rattle.resolver_bodies.specs.BodyView.{JoinedData, joined_all}
use Rattle.semantics.specs.Query.{From, nothing, table}
use Rattle.semantics_names.specs.Sources.{kind_of}
use Rattle.logical_plan.specs.JoinPlan as plan
use Rattle.expr.specs.View.{term}
use Rattle.logical_plan_terms.specs.declared.table_plans.inputs.Input.{Input}
use Rattle.logical_plan_terms.specs.declared.table_plans.inputs.JoinedTable.{JoinedTable}

abbrev pub joined_table : JoinedTable → JoinedData
joined_table t = record { kind = kind_of t.join; source = table t.table t.width; condition = term t.condition.now }

-- these tables, joined from the left
abbrev pub from_of : List JoinedTable → From
from_of tables = joined_all nothing (map joined_table tables)

abbrev pub input_from : Input → From
input_from input = from_of input.tables.items

-- these columns of a row of the tables side by side; without FROM the row of no values stays so
abbrev pub seen : Input → List ℕ → Row → Row
seen input read row = plan.seen (input_from input) read row
