-- Sources, as plain data.
use Rattle.std.specs.Prelude.{map, option_map, string_bytes}
use Rattle.values.specs.declared.fault.Fault.TheVariants.{Limit}
use Rattle.expr.specs.Term.{Term}
use Rattle.semantics.specs.Query.{From, JoinKind, Source}
use Rattle.resolver_bodies.specs.BodyView.{JoinedData, body_of, joined_all, joined_of, source_of}
use Rattle.semantics_names.specs.Outcome.{found_or}
use Rattle.semantics_names.specs.Sources as spec
use Rattle.semantics_names.specs.Statement as statement
use Rattle.expr.specs.View.{term}
use Rattle.resolver_sources.specs.declared.source_names.conditions.Condition.{Condition}
use Rattle.resolver_sources.specs.declared.source_names.given.Given.{Given}
use Rattle.resolver_sources.specs.declared.source_names.given.Known.{Known}
use Rattle.resolver_sources.specs.declared.source_names.given.Queried.{Queried}
use Rattle.resolver_sources.specs.declared.source_names.joins.Sources.{Sources}
use Rattle.resolver_terms.specs.SelectView.{key_of}

abbrev pub known_of : Known → spec.Known
known_of k = record {
  name = string_bytes k.name;
  source = found_or Limit (option_map source_of k.source);
  columns = map (λ n. string_bytes n) k.columns.items;
}

abbrev pub queried_of : Queried → statement.Queried
queried_of q = record {
  body = body_of q.body;
  names = map (λ n. string_bytes n) q.names.items;
  order = map key_of q.order.items;
  beside = map body_of q.beside.items;
}

abbrev pub given_of : Given → spec.Given
given_of g = record {
  source = source_of g.source;
  name = option_map (λ n. string_bytes n) g.name;
  columns = map (λ n. string_bytes n) g.columns.items;
  beside = map body_of g.beside.items;
}

abbrev pub condition_of : Condition → spec.Condition
condition_of c = record { scope = c.scope; term = term c.term }

-- a source that is joined so, on this condition
abbrev pub joined_data : JoinKind → Source → Term → JoinedData
joined_data kind source condition = record { kind = kind; source = source; condition = condition }

abbrev pub sources_of : Sources → spec.Sources
sources_of s = record {
  from = joined_all From.nothing (map joined_of s.joined.items);
  names = map (option_map (λ n. string_bytes n)) s.names.items;
  scope = s.scope;
  beside = map body_of s.beside.items;
}
