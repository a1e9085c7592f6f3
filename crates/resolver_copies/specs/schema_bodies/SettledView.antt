-- The parts of a query over the schema's table as one more table.
use Rattle.std.specs.Prelude.{ℕ}
use Rattle.resolver_bodies.specs.BodyView.{JoinedData, SingleData}
use Rattle.semantics_rewrites.specs.schema_sources.Settled.{with_schema_from, with_schema_source}

-- a source, joined as it was
abbrev pub with_schema_joined : ℕ → JoinedData → JoinedData
with_schema_joined place j = record { kind = j.kind; source = with_schema_source place j.source; condition = j.condition }

-- a SELECT, over its sources
abbrev pub with_schema_single : ℕ → SingleData → SingleData
with_schema_single place s = record { from = with_schema_from place s.from; select = s.select }
