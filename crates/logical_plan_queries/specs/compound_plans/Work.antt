-- How many pages the SELECTs of a query may ask for, where the trees of the tables have so many. (SELECT, "Determination of input data")
use Rattle.std.specs.Prelude.{◌+◌, ◌*◌, ℕ, List, if◌then◌else◌, length}
use Rattle.values.specs.Database.{Database}
use Rattle.values.specs.Datum.{Datum}
use Rattle.values.specs.Row.{Row}
use Rattle.semantics.specs.Body.{from_rows, values_over}
use Rattle.semantics.specs.Joins.{pads_left}
use Rattle.semantics.specs.Query.{Body, From, JoinKind, Source, compound, derived, joined, nothing, schema, select, table, with_inner}
use Rattle.semantics.specs.Valuation.{Valuation}
use Rattle.logical_plan.specs.Plan.{table_size, TreeSizes}

-- a source is read once for each row that the joins before it make, and one that a RIGHT or FULL JOIN puts behind them once alone
abbrev pub times_read : JoinKind → List Row → ℕ
times_read kind before = if pads_left kind then 1 else length before

-- the pages that reading a source once asks for: kept rows have none, and where a query is run the schema's table stands among the others
abbrev pub source_pages : List TreeSizes → Source → ℕ
source_pages sizes (table at width) = table_size sizes at
source_pages sizes schema = 0
source_pages sizes (derived body) = 0

module _ (w : Datum) (db : Database) (sizes : List TreeSizes) where
  -- those that FROM asks for, where ON takes these values
  abbrev pub from_work : Valuation → From → ℕ
  from_work value nothing = 0
  from_work value (joined from kind source on) = from_work value from + times_read kind (from_rows w db value from) * source_pages sizes source
  from_work value (with_inner from query) = from_work value from

  -- those of each SELECT, without the queries in it
  abbrev pub selects_work : Body → ℕ
  selects_work (select from s) = from_work (values_over w db from) from
  selects_work (compound body operator from s) = selects_work body + from_work (values_over w db from) from
