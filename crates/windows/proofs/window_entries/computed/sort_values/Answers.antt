use Rattle.std.proofs.Common.{◌∙◌, Any, map, ap, subst, sym}
use Rattle.std.proofs.lemmas.List.{take_all}
use Rattle.std.proofs.lemmas.Result.{err_from_is_err_and}
use Rattle.values.specs.Datum.{datum_of}
use Rattle.expr.specs.Meaning.{Overflows, eval}
use Rattle.expr.specs.View.{term}
use Rattle.resolver_terms.specs.SelectView.{sort_of}
use Rattle.resolver_terms.specs.declared.selects.SortTerm.{SortTerm}
use Rattle.semantics.specs.Query as q
use Rattle.windows.proofs.lemmas.window_entries.ValueLemmas.{any_made, made_more, map-map}
use Rattle.windows.proofs.window_entries.computed.sort_values.Goals as goal

pub returns-in_err-value-clause-overflow : goal.returns-in_err-value-clause-overflow
returns-in_err-value-clause-overflow c = λ is.
    let p = err_from_is_err_and c.from_residual-in_err-value.result c.from_residual-in_err-value.ensures.1 in
    subst (Any (λ t. Overflows t (map datum_of c.args.row.now))) (sym (map-map (λ (s : q.SortTerm). s.term) sort_of c.args.order.now))
    (any_made (λ (s : SortTerm). term s.term) (λ t. Overflows t (map datum_of c.args.row.now)) c.args.order.now c.loop-sort.sort-index c.sort-item.result c.loop-sort-test.true c.sort-item.is
    (c.in_err-value.ensures.overflow (cc (is, p.1, p.2))))

pub loop-sort-preserved : goal.loop-sort-preserved
loop-sort-preserved c = λ w.
    let row = map datum_of c.args.row.now in
    rw c.in_ok-push.ensures.items
    (made_more (λ (s : SortTerm). eval w (term s.term) row) datum_of c.args.order.now c.loop-sort.sort-index c.sort-item.result c.loop-sort.values.items c.in_ok-value.value
    c.loop-sort-test.true (sym (c.in_ok-value.ensures.value w) ∙ ap (λ (s : SortTerm). eval w (term s.term) row) c.sort-item.is) (c.loop-sort.invariant w))

pub returns-clause-values : goal.returns-clause-values
returns-clause-values c = λ w.
    let row = map datum_of c.args.row.now in
    c.loop-sort.invariant w
    ∙ ap (map (λ (s : SortTerm). eval w (term s.term) row)) (take_all c.loop-sort.sort-index c.args.order.now c.loop-sort-test.false)
    ∙ sym (map-map (λ t. eval w t row) (λ (s : SortTerm). term s.term) c.args.order.now)
    ∙ ap (map (λ t. eval w t row)) (sym (map-map (λ (s : q.SortTerm). s.term) sort_of c.args.order.now))
