-- A part is what its place says, or what its operator makes of its parts; a list is gone along from the left.
use Rattle.std.proofs.Common.{◌≡◌, ◌+◌, ◌++◌, map, drop, refl, sym, subst}
use Rattle.std.proofs.lemmas.Result.{err_from_is_err_and}
use Rattle.semantics_names.specs.Expression as spec
use Rattle.semantics_names.specs.Outcome.{also}
use Rattle.expr.specs.View.{term}
use Rattle.sql_reader_grammar.specs.statement_trees.TreeView.{expr_of}
use Rattle.sql_reader_syntax.specs.ExprTree.{trees_of}
use Rattle.resolver_exprs.proofs.lemmas.expression_names.OutcomeLemmas.{all_done, begun, one_fails, one_more}
use Rattle.resolver_exprs.proofs.lemmas.expression_names.PartLemmas.{says_fault, says_nothing, says_term}
use Rattle.resolver_exprs.proofs.expression_names.terms.+names.Goals as goal

pub all_terms-loop-item-init : goal.all_terms-loop-item-init
all_terms-loop-item-init g t c =
    let answers = g.I.InnerQueries.answers c.args.inner.now in
    let says = g.P.Place.meaning c.args.place.now in
    let all = spec.terms_of answers says (trees_of (map expr_of c.args.items.now)) in
    subst (λ done. all ≡ also (λ rest. map term done ++ rest) all) (sym c.new-terms.ensures.items) (begun all)

pub all_terms-returns-in_err-next : goal.all_terms-returns-in_err-next
all_terms-returns-in_err-next g t c =
    let answers = g.I.InnerQueries.answers c.args.inner.now in
    let says = g.P.Place.meaning c.args.place.now in
    let p = err_from_is_err_and c.from_residual.result c.from_residual.ensures.1 in
    rw (p.1, p.2) (one_fails term (λ x. spec.term_of answers says (expr_of x)) (λ xs. spec.terms_of answers says (trees_of (map expr_of xs))) refl (λ x xs. refl)
    c.args.items.now c.loop-item.item-index c.item-item.result c.loop-item.terms.items c.in_err-next.field-0.0
    (spec.terms_of answers says (trees_of (map expr_of c.args.items.now))) c.loop-item-test.true c.item-item.is c.loop-item.invariant c.in_err-next.ensures)

pub all_terms-loop-item-preserved : goal.all_terms-loop-item-preserved
all_terms-loop-item-preserved g t c =
    let answers = g.I.InnerQueries.answers c.args.inner.now in
    let says = g.P.Place.meaning c.args.place.now in
    let all = spec.terms_of answers says (trees_of (map expr_of c.args.items.now)) in
    subst (λ done. all ≡ also (λ rest. map term done ++ rest)
    (spec.terms_of answers says (trees_of (map expr_of (drop (c.loop-item.item-index + 1) c.args.items.now)))))
    (sym c.in_ok-push.ensures.items)
    (one_more term (λ x. spec.term_of answers says (expr_of x)) (λ xs. spec.terms_of answers says (trees_of (map expr_of xs))) refl (λ x xs. refl)
    c.args.items.now c.loop-item.item-index c.item-item.result c.loop-item.terms.items c.in_ok-next.next all
    c.loop-item-test.true c.item-item.is c.in_ok-next.ensures c.loop-item.invariant)

pub all_terms-returns : goal.all_terms-returns
all_terms-returns g t c =
    let answers = g.I.InnerQueries.answers c.args.inner.now in
    let says = g.P.Place.meaning c.args.place.now in
    all_done term (λ x. spec.term_of answers says (expr_of x)) (λ xs. spec.terms_of answers says (trees_of (map expr_of xs))) refl (λ x xs. refl)
    c.args.items.now c.loop-item.item-index c.loop-item.terms.items (spec.terms_of answers says (trees_of (map expr_of c.args.items.now)))
    c.loop-item-test.false c.loop-item.invariant

pub term-returns-in_err-said : goal.term-returns-in_err-said
term-returns-in_err-said g t c =
    let p = err_from_is_err_and c.from_residual.result c.from_residual.ensures.1 in
    rw (p.1, p.2) (says_fault (g.I.InnerQueries.answers c.args.inner.now) (g.P.Place.meaning c.args.place.now) (expr_of c.args.tree.now)
    c.in_err-said.field-0.0 c.in_err-said.ensures)

pub term-returns-in-Some : goal.term-returns-in-Some
term-returns-in-Some g t c =
    says_term (g.I.InnerQueries.answers c.args.inner.now) (g.P.Place.meaning c.args.place.now) (expr_of c.args.tree.now) (term c.in-Some.said)
    (rw c.in-Some.is at c.in_ok-said.ensures)

pub term-returns-in-None : goal.term-returns-in-None
term-returns-in-None g t c =
    says_nothing (g.I.InnerQueries.answers c.args.inner.now) (g.P.Place.meaning c.args.place.now) term c.of_parts.result (expr_of c.args.tree.now)
    (rw c.in-None.is at c.in_ok-said.ensures) c.of_parts.ensures
