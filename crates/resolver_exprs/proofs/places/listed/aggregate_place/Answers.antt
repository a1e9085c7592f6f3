use Rattle.std.proofs.Common.{sym, ◌∙◌}
use Rattle.semantics_names.specs.Same.{is_same_aggregate}
use Rattle.resolver_exprs.proofs.lemmas.places.ListedLemmas.{is_found, is_passed, same_so}
use Rattle.resolver_terms.specs.SelectView.{aggregate_of}
use Rattle.resolver_exprs.proofs.places.listed.aggregate_place.Goals as goal

pub returns-then-same_aggregate-clause-place : goal.returns-then-same_aggregate-clause-place
returns-then-same_aggregate-clause-place c =
    sym (is_found is_same_aggregate aggregate_of (aggregate_of c.args.a.now) c.args.aggregates.now c.loop-at.at c.index-aggregates-at.result c.loop-at-test.true c.index-aggregates-at.is
    (same_so is_same_aggregate c.same_is_equal.ensures.aggregates (aggregate_of c.args.a.now) (aggregate_of c.index-aggregates-at.result) c.same_aggregate.result c.same_aggregate.ensures
    ∙ c.if-same_aggregate.true) c.loop-at.invariant)

pub loop-at-preserved : goal.loop-at-preserved
loop-at-preserved c =
    is_passed is_same_aggregate aggregate_of (aggregate_of c.args.a.now) c.args.aggregates.now c.loop-at.at c.index-aggregates-at.result c.loop-at-test.true c.index-aggregates-at.is
    (same_so is_same_aggregate c.same_is_equal.ensures.aggregates (aggregate_of c.args.a.now) (aggregate_of c.index-aggregates-at.result) c.same_aggregate.result c.same_aggregate.ensures
    ∙ c.if-same_aggregate.false) c.loop-at.invariant
