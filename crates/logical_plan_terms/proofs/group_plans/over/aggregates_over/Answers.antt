use Rattle.std.proofs.Common.{refl}
use Rattle.logical_plan_terms.proofs.lemmas.group_plans.OverLemmas.{aggregate_more, not_over}
use Rattle.logical_plan_terms.proofs.group_plans.over.aggregates_over.Goals as goal

pub returns-in-None-clause-over : goal.returns-in-None-clause-over
returns-in-None-clause-over c =
    not_over c.args.read.now c.args.inner c.args.aggregates.now c.loop-aggregate.aggregate-index c.aggregate-item.result c.loop-aggregate-test.true c.aggregate-item.is
    (rw c.in-None.is at c.in_ok-argument.ensures.over)

pub loop-aggregate-preserved : goal.loop-aggregate-preserved
loop-aggregate-preserved c =
    rw c.in_ok-push-in-Some.ensures.items
    (aggregate_more c.args.read.now c.args.inner c.args.aggregates.now c.loop-aggregate.aggregate-index c.aggregate-item.result c.loop-aggregate-test.true c.aggregate-item.is
    c.loop-aggregate.over.items (record { function = c.aggregate-item.result.function; argument = c.in-Some.argument }) c.loop-aggregate.invariant
    (record { function = refl; argument = rw c.in-Some.is at c.in_ok-argument.ensures.stands }))
