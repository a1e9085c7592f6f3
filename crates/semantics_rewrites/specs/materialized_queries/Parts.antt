-- The queries in a query, each of which is computed before it. (SELECT, "Determination of input data"; SQL Language Expressions, "The IN
-- and NOT IN Operators", "The EXISTS Operator")
use Rattle.std.specs.Prelude.{ℕ, pos, suc, ◌+◌, [], None}
use Rattle.semantics.specs.Query.{Body, From, InnerQuery, QueryData, Source, compound, derived, exists, joined, nothing, schema, select, table, values_of, with_inner}

-- a query of this body alone, in no order
abbrev pub plain : Body → QueryData
plain body = record { body = body; order = []; limit = None; offset = pos 0 }

-- how many SELECTs stand in it, at any depth
abbrev mutual
  pub source_size : Source → ℕ
  source_size (table at width) = 0
  source_size schema = 0
  source_size (derived body) = body_size body

  pub from_size : From → ℕ
  from_size nothing = 0
  from_size (joined from kind source on) = from_size from + source_size source
  from_size (with_inner from query) = from_size from + query_size query

  pub query_size : InnerQuery → ℕ
  query_size (values_of body) = body_size body
  query_size (exists body) = body_size body

  pub body_size : Body → ℕ
  body_size (select from s) = suc (from_size from)
  body_size (compound body operator from s) = suc (body_size body + from_size from)
