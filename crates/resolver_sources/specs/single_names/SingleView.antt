-- One SELECT with its FROM, as plain data.
use Rattle.std.specs.Prelude.{map}
use Rattle.resolver_bodies.specs.BodyView.{body_of, tables_of}
use Rattle.semantics_names.specs.Statement as spec
use Rattle.resolver_sources.specs.declared.single_names.singles.NamedSingle.{NamedSingle}
use Rattle.resolver_selects.specs.NamedView.{core_data}

abbrev pub single_data : NamedSingle → spec.Single
single_data s = record { from = tables_of s.tables; core = core_data s.named; beside = map body_of s.beside.items }
