use Rattle.std.proofs.Common.{◌≡◌, map, take}
use Rattle.resolver_terms.specs.SelectView.{direction_of}
use Rattle.resolver_terms.specs.declared.selects.SortTerm.{SortTerm}
use Rattle.windows.proofs.parts.directions_of.Given as goal

abbrev pub invariant-loop-sort : goal.invariant-loop-sort
invariant-loop-sort l = map direction_of l.directions.items ≡ map (λ (s : SortTerm). direction_of s.direction) (take l.sort-index l.order)
