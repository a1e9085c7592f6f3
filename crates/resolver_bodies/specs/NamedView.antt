-- Statements whose names are resolved, as plain data.
use Rattle.std.specs.Prelude.{map, string_bytes}
use Rattle.resolver_bodies.specs.BodyView.{body_of}
use Rattle.semantics.specs.Query.{QueryData}
use Rattle.semantics_names.specs.Statement.{Named}
use Rattle.resolver_bodies.specs.declared.statements.NamedStatement.{NamedStatement}
use Rattle.resolver_bodies.specs.declared.statements.Query.{Query}
use Rattle.resolver_terms.specs.SelectView.{key_of}

abbrev pub query_data : Query → QueryData
query_data q = record { body = body_of q.body; order = map key_of q.order.items; limit = q.limit; offset = q.offset }

abbrev pub named_data : NamedStatement → Named
named_data s = record {
  query = query_data s.query;
  names = map (λ n. string_bytes n) s.names.items;
  beside = map body_of s.beside.items;
}
