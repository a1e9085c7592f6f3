use Rattle.std.proofs.Common.{map, take}
use Rattle.resolver_terms.specs.SelectView.{call_of}
use Rattle.logical_plan_terms.specs.window_plans.Windowed.{CallsAreThemselves}
use Rattle.logical_plan_terms.proofs.window_plans.over.calls_over.Given as goal

abbrev pub invariant-loop-call : goal.invariant-loop-call
invariant-loop-call l = CallsAreThemselves l.inner (map call_of l.over.items) (map call_of (take l.call-index l.calls))
