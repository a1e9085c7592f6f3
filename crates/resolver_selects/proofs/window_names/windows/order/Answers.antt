-- The list is gone along from the left.
use Rattle.std.proofs.Common.{◌≡◌, ◌+◌, ◌++◌, drop, map, refl, subst, sym}
use Rattle.std.proofs.lemmas.Result.{err_from_is_err_and}
use Rattle.resolver_exprs.proofs.lemmas.expression_names.OutcomeLemmas.{all_done, begun, one_fails, one_more}
use Rattle.sql_reader_grammar.specs.Reading.{terms_of}
use Rattle.semantics_names.specs.Outcome.{also}
use Rattle.semantics_names.specs.Places.{sorted}
use Rattle.resolver_terms.specs.SelectView.{sort_of}
use Rattle.sql_reader_grammar.specs.statement_trees.TreeView.{term_of}
use Rattle.resolver_selects.proofs.lemmas.window_names.SortLemmas.{one_by_one}
use Rattle.resolver_selects.specs.window_names.Sorting.{sort_key}
use Rattle.resolver_selects.proofs.window_names.windows.order.Goals as goal

pub loop-sort-init : goal.loop-sort-init
loop-sort-init g c =
    let answers = g.I.InnerQueries.answers c.args.inner.now in
    let says = g.P.Place.meaning c.args.place.now in
    let all = sorted answers says (terms_of (map term_of c.args.terms.now)) in
    subst (λ done. all ≡ also (λ rest. map sort_of done ++ rest) all) (sym c.new-order.ensures.items) (begun all)

pub returns-in_err-next : goal.returns-in_err-next
returns-in_err-next g c =
    let answers = g.I.InnerQueries.answers c.args.inner.now in
    let says = g.P.Place.meaning c.args.place.now in
    let p = err_from_is_err_and c.from_residual.result c.from_residual.ensures.1 in
    rw (p.1, p.2) (one_fails sort_of (λ x. sort_key answers says (term_of x)) (λ xs. sorted answers says (terms_of (map term_of xs))) refl
    (one_by_one answers says) c.args.terms.now c.loop-sort.sort-index c.sort-item.result c.loop-sort.order.items c.in_err-next.field-0.0
    (sorted answers says (terms_of (map term_of c.args.terms.now))) c.loop-sort-test.true c.sort-item.is c.loop-sort.invariant c.in_err-next.ensures)

pub loop-sort-preserved : goal.loop-sort-preserved
loop-sort-preserved g c =
    let answers = g.I.InnerQueries.answers c.args.inner.now in
    let says = g.P.Place.meaning c.args.place.now in
    let all = sorted answers says (terms_of (map term_of c.args.terms.now)) in
    subst (λ done. all ≡ also (λ rest. map sort_of done ++ rest)
    (sorted answers says (terms_of (map term_of (drop (c.loop-sort.sort-index + 1) c.args.terms.now)))))
    (sym c.in_ok-push.ensures.items)
    (one_more sort_of (λ x. sort_key answers says (term_of x)) (λ xs. sorted answers says (terms_of (map term_of xs))) refl
    (one_by_one answers says) c.args.terms.now c.loop-sort.sort-index c.sort-item.result c.loop-sort.order.items c.in_ok-next.next all
    c.loop-sort-test.true c.sort-item.is c.in_ok-next.ensures c.loop-sort.invariant)

pub returns : goal.returns
returns g c =
    let answers = g.I.InnerQueries.answers c.args.inner.now in
    let says = g.P.Place.meaning c.args.place.now in
    all_done sort_of (λ x. sort_key answers says (term_of x)) (λ xs. sorted answers says (terms_of (map term_of xs))) refl
    (one_by_one answers says) c.args.terms.now c.loop-sort.sort-index c.loop-sort.order.items
    (sorted answers says (terms_of (map term_of c.args.terms.now))) c.loop-sort-test.false c.loop-sort.invariant
