use Rattle.std.proofs.Common.{sym, ◌∙◌}
use Rattle.resolver_bodies.specs.BodyView.{inner_of}
use Rattle.semantics_names.specs.Same.{is_same_inner}
use Rattle.resolver_exprs.proofs.lemmas.places.ListedLemmas.{is_found, is_passed, same_so}
use Rattle.resolver_sources.proofs.inner_names.answers.query_place.Goals as goal

pub returns-then-same_query : goal.returns-then-same_query
returns-then-same_query c =
    sym (is_found is_same_inner inner_of (inner_of c.args.query.now) c.args.queries.now c.loop-at.at c.index-queries-at.result c.loop-at-test.true c.index-queries-at.is
    (same_so is_same_inner c.same_is_equal.ensures.inner_queries (inner_of c.args.query.now) (inner_of c.index-queries-at.result) c.same_query.result c.same_query.ensures
    ∙ c.if-same_query.true) c.loop-at.invariant)

pub loop-at-preserved : goal.loop-at-preserved
loop-at-preserved c =
    is_passed is_same_inner inner_of (inner_of c.args.query.now) c.args.queries.now c.loop-at.at c.index-queries-at.result c.loop-at-test.true c.index-queries-at.is
    (same_so is_same_inner c.same_is_equal.ensures.inner_queries (inner_of c.args.query.now) (inner_of c.index-queries-at.result) c.same_query.result c.same_query.ensures
    ∙ c.if-same_query.false) c.loop-at.invariant
