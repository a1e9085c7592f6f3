-- Each query can be run over the schema's table as one more table.
use Rattle.std.proofs.Common.{ℕ}
use Rattle.operators_runs.specs.inner_rows.Runnable.{IsRunnableBody, IsRunnableFrom, IsRunnableInner, IsRunnableSource}
use Rattle.semantics.specs.Query.{Body, From, InnerQuery, Source, compound, derived, exists, joined, nothing, schema, select, table, values_of, with_inner}
use Rattle.semantics_rewrites.specs.schema_sources.Settled.{with_schema_body, with_schema_from, with_schema_inner, with_schema_source}

module _ (place : ℕ) where
  mutual
    source_runs : (source : Source) → IsRunnableSource (with_schema_source place source)
    source_runs (table at width) = tt
    source_runs schema = tt
    source_runs (derived body) = settled_runs body

    from_runs : (from : From) → IsRunnableFrom (with_schema_from place from)
    from_runs nothing = tt
    from_runs (joined from kind source on) = (from_runs from, source_runs source)
    from_runs (with_inner from query) = (from_runs from, inner_runs query)

    inner_runs : (query : InnerQuery) → IsRunnableInner (with_schema_inner place query)
    inner_runs (values_of body) = settled_runs body
    inner_runs (exists body) = settled_runs body

    pub settled_runs : (body : Body) → IsRunnableBody (with_schema_body place body)
    settled_runs (select from s) = from_runs from
    settled_runs (compound body operator from s) = (settled_runs body, from_runs from)
