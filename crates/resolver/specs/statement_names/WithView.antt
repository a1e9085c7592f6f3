-- What FROM may mention, as plain data.
use Rattle.std.specs.Prelude.{map}
use Rattle.resolver_bodies.specs.BodyView.{body_of}
use Rattle.semantics_names.specs.Statement as spec
use Rattle.resolver_sources.specs.source_names.GivenView.{known_of}
use Rattle.resolver.specs.declared.statement_names.items.With.{With}

abbrev pub with_data : With → spec.With
with_data w = record { known = map known_of w.known.items; beside = map body_of w.beside.items }
