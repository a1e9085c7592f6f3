-- No window before this one is named so.
use Rattle.std.proofs.Common.{◌≡◌, drop, map}
use Rattle.semantics_names.specs.Places as spec
use Rattle.resolver_selects.specs.window_names.DefinedView.{defined_of}
use Rattle.resolver_selects.proofs.window_names.windows.defined_as.Given as goal

abbrev pub invariant-loop-window : goal.invariant-loop-window
invariant-loop-window l =
    spec.defined_as (map defined_of l.defined) l.name ≡ spec.defined_as (map defined_of (drop l.window-index l.defined)) l.name
