use Rattle.std.proofs.Common.{◌∙◌, ◌++◌, ◌∷◌, [], map, sym, ap}
use Rattle.std.proofs.lemmas.List.{map-append}
use Rattle.expr.specs.Filled.{filled}
use Rattle.resolver_terms.specs.SelectView.{call_of}
use Rattle.semantics.specs.Mapped.{mapped_call}
use Rattle.logical_plan_terms.specs.window_plans.Windowed.{IsOverCall}
use Rattle.logical_plan_terms.proofs.lemmas.window_plans.ItselfLemmas.{mapped_more, not_all}
use Rattle.logical_plan_terms.proofs.window_plans.over.calls_over.Goals as goal

pub returns-in-None-clause-over : goal.returns-in-None-clause-over
returns-in-None-clause-over c =
    not_all (IsOverCall c.args.columns.now c.args.inner) call_of c.args.calls.now c.loop-call.call-index c.call-item.result
    c.loop-call-test.true c.call-item.is (rw c.in-None.is at c.in_ok-called.ensures.over)

pub loop-call-preserved : goal.loop-call-preserved
loop-call-preserved c = λ answers few.
    let one = (rw c.in-Some.is at c.in_ok-called.ensures.itself) answers few in
    ap (map call_of) c.in_ok-push-in-Some.ensures.items ∙ map-append call_of c.loop-call.over.items (c.in-Some.call ∷ [])
    ∙ (λ j. c.loop-call.invariant answers few j ++ one j ∷ [])
    ∙ sym (mapped_more call_of (mapped_call (filled answers)) c.args.calls.now c.loop-call.call-index c.call-item.result c.loop-call-test.true c.call-item.is)
