-- The calls so far.
use Rattle.std.proofs.Common.{◌≡◌, map, take}
use Rattle.semantics_names.specs.Statement.{over_defined}
use Rattle.resolver_terms.specs.SelectView.{call_of}
use Rattle.resolver_selects.specs.window_names.DefinedView.{defined_of}
use Rattle.resolver_sources.proofs.single_names.windows.calls_over.Given as goal

abbrev pub invariant-loop-named : goal.invariant-loop-named
invariant-loop-named l = map call_of l.calls.items ≡ map over_defined (map defined_of (take l.named-index l.defined))
