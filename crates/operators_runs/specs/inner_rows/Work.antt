-- How many pages a query with queries in it may ask for: each of these is computed once, innermost first, and its rows, which are kept,
-- have no pages. (SELECT, "Determination of input data"; SQL Language Expressions, "The IN and NOT IN Operators", "The EXISTS Operator")
use Rattle.std.specs.Prelude.{ℕ, ◌+◌, List, sum_by}
use Rattle.values.specs.Database.{Database}
use Rattle.values.specs.Datum.{Datum}
use Rattle.logical_plan_queries.specs.compound_plans.Work.{from_work}
use Rattle.semantics.specs.Body.{values_over}
use Rattle.semantics.specs.Query.{Body, From, InnerQuery, Source, compound, derived, exists, joined, nothing, schema, select, table, values_of, with_inner}
use Rattle.logical_plan.specs.Plan.{TreeSizes}

-- where the trees of the tables have so many
module _ (w : Datum) (db : Database) (sizes : List TreeSizes) where
  abbrev mutual
    -- those that the rows of a source which is no table ask for
    pub kept_work : Source → ℕ
    kept_work (table at width) = 0
    kept_work schema = 0
    kept_work (derived body) = body_work body

    -- those that the queries in a FROM do
    pub inner_work : From → ℕ
    inner_work nothing = 0
    inner_work (joined from kind source on) = inner_work from + kept_work source
    inner_work (with_inner from query) = inner_work from + query_work query

    pub query_work : InnerQuery → ℕ
    query_work (values_of body) = body_work body
    query_work (exists body) = body_work body

    -- and its own joins, over their rows
    pub body_work : Body → ℕ
    body_work (select from s) = inner_work from + from_work w db sizes (values_over w db from) from
    body_work (compound body operator from s) = body_work body + (inner_work from + from_work w db sizes (values_over w db from) from)

  -- those that these sources and queries do, each once
  abbrev pub parts_work : List Source → List InnerQuery → ℕ
  parts_work sources queries = sum_by kept_work sources + sum_by query_work queries
