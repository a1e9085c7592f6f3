use Rattle.std.proofs.Common.{rules}
use Rattle.resolver_terms.specs.SelectView.{call_of}
use Rattle.expr_types.proofs.lemmas.same_trees.SameLemmas.{list_end, list_step}
use Rattle.resolver_bodies.proofs.same_bodies.selects.same_calls.Goals as goal

pub returns : goal.returns
returns c = list_end call_of c.args.a.now c.args.b.now c.loop-x.rest.now c.loop-x.x-index _ (search rules) c.is_empty.ensures c.loop-x.invariant

pub loop-x-preserved : goal.loop-x-preserved
loop-x-preserved c =
    list_step call_of c.args.a.now c.args.b.now c.loop-x.rest.now c.in-Some.later.now c.loop-x.x-index c.x-item.result c.in-Some.y.now
    c.loop-x-test.true c.x-item.is (search rules) (c.same_call.ensures.0 c.if-same_call.true) c.loop-x.invariant
