use Rattle.std.proofs.Common.{sym, ◌∙◌}
use Rattle.semantics_names.specs.Same.{is_same_term}
use Rattle.resolver_exprs.proofs.lemmas.places.ListedLemmas.{is_found, is_passed, same_so}
use Rattle.expr.specs.View.{term}
use Rattle.resolver_exprs.proofs.places.listed.term_place.Goals as goal

pub returns-then-same_tree-clause-place : goal.returns-then-same_tree-clause-place
returns-then-same_tree-clause-place c =
    sym (is_found is_same_term term (term c.args.t.now) c.args.terms.now c.loop-at.at c.index-terms-at.result c.loop-at-test.true c.index-terms-at.is
    (same_so is_same_term c.same_is_equal.ensures.terms (term c.args.t.now) (term c.index-terms-at.result) c.same_tree.result c.same_tree.ensures
    ∙ c.if-same_tree.true) c.loop-at.invariant)

pub loop-at-preserved : goal.loop-at-preserved
loop-at-preserved c =
    is_passed is_same_term term (term c.args.t.now) c.args.terms.now c.loop-at.at c.index-terms-at.result c.loop-at-test.true c.index-terms-at.is
    (same_so is_same_term c.same_is_equal.ensures.terms (term c.args.t.now) (term c.index-terms-at.result) c.same_tree.result c.same_tree.ensures
    ∙ c.if-same_tree.false) c.loop-at.invariant
