use Rattle.std.proofs.Common.{map, ap, ◌∙◌}
use Rattle.std.proofs.lemmas.Result.{err_from_is_err_and}
use Rattle.semantics_names.specs.Outcome.{each}
use Rattle.semantics_names.specs.Types.{is_frame, term_type}
use Rattle.resolver_terms.specs.SelectView.{sort_of, window_of}
use Rattle.expr.specs.View.{term}
use Rattle.resolver_types.proofs.lemmas.term_types.WindowLemmas.{order_fails}
use Rattle.resolver_types.specs.term_types.Passed.{passed}
use Rattle.resolver_types.proofs.term_types.windows.check_window.Goals as goal

pub returns-in_err-check_order : goal.returns-in_err-check_order
returns-in_err-check_order c =
    let over = c.args.over.now in
    let window = window_of c.args.window.now in
    let typed = term_type over.answers.now over.columns.now in
    let p = err_from_is_err_and c.from_residual-in_err-check_order.result c.from_residual-in_err-check_order.ensures.1 in
    rw (p.1, p.2) (order_fails (each typed window.partition) (each (λ s. typed s.term) window.order)
    (is_frame over.answers.now over.columns.now window.order window.frame) c.in_err-check_order.field-0.0
    (c.in_ok-check_terms.ensures ∙ ap (λ ts. passed (each typed (map term ts))) c.as_slice.ensures.value)
    (c.in_err-check_order.ensures ∙ ap (λ ss. passed (each (λ s. typed s.term) (map sort_of ss))) c.as_slice-2.ensures.value))
