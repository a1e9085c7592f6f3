use Rattle.std.proofs.Common.{sym, ◌∙◌}
use Rattle.semantics_names.specs.Same.{is_same_call}
use Rattle.resolver_exprs.proofs.lemmas.places.ListedLemmas.{is_found, is_passed, same_so}
use Rattle.resolver_terms.specs.SelectView.{call_of}
use Rattle.resolver_selects.proofs.window_calls.mentions.call_place.Goals as goal

pub returns-then-same_call-clause-place : goal.returns-then-same_call-clause-place
returns-then-same_call-clause-place c =
    sym (is_found is_same_call call_of (call_of c.args.call.now) c.args.calls.now c.loop-at.at c.index-calls-at.result c.loop-at-test.true c.index-calls-at.is
    (same_so is_same_call c.same_is_equal.ensures.calls (call_of c.args.call.now) (call_of c.index-calls-at.result) c.same_call.result c.same_call.ensures
    ∙ c.if-same_call.true) c.loop-at.invariant)

pub loop-at-preserved : goal.loop-at-preserved
loop-at-preserved c =
    is_passed is_same_call call_of (call_of c.args.call.now) c.args.calls.now c.loop-at.at c.index-calls-at.result c.loop-at-test.true c.index-calls-at.is
    (same_so is_same_call c.same_is_equal.ensures.calls (call_of c.args.call.now) (call_of c.index-calls-at.result) c.same_call.result c.same_call.ensures
    ∙ c.if-same_call.false) c.loop-at.invariant
