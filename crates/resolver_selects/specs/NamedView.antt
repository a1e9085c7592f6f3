-- A SELECT with its names.
use Rattle.std.specs.Prelude.{map, string_bytes}
use Rattle.semantics_names.specs.Statement.{CoreData}
use Rattle.resolver_terms.specs.SelectView.{key_of, select_of}
use Rattle.resolver_selects.specs.declared.selects.NamedSelect.{NamedSelect}
use Rattle.resolver_selects.specs.window_names.DefinedView.{defined_of}

abbrev pub core_data : NamedSelect → CoreData
core_data s = record {
  select = select_of s.select;
  names = map (λ n. string_bytes n) s.names.items;
  order = map key_of s.order.items;
  defined = map defined_of s.defined.items;
}
