use Rattle.std.proofs.Common.{map, take}
use Rattle.resolver_terms.specs.SelectView.{sort_of}
use Rattle.logical_plan_terms.specs.window_plans.Windowed.{SortsAreThemselves}
use Rattle.logical_plan_terms.proofs.window_plans.calls.order_over.Given as goal

abbrev pub invariant-loop-sort : goal.invariant-loop-sort
invariant-loop-sort l = SortsAreThemselves l.inner (map sort_of l.over.items) (map sort_of (take l.sort-index l.order))
