-- The windows that a SELECT defines.
use Rattle.std.specs.Prelude.{string_bytes}
use Rattle.semantics_names.specs.Places as spec
use Rattle.resolver_terms.specs.SelectView.{window_of}
use Rattle.resolver_selects.specs.declared.window_names.windows.Defined.{Defined}

abbrev pub defined_of : Defined → spec.Defined
defined_of d = record { name = string_bytes d.name; window = window_of d.window }
