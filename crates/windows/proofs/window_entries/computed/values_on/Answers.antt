use Rattle.std.proofs.Common.{◌∙◌, map, ap, sym}
use Rattle.std.proofs.lemmas.List.{take_all}
use Rattle.std.proofs.lemmas.Result.{err_from_is_err_and}
use Rattle.values.specs.Datum.{datum_of}
use Rattle.expr.specs.Meaning.{Overflows, eval}
use Rattle.expr.specs.View.{term}
use Rattle.expr.specs.declared.tree.Expr.{Expr}
use Rattle.windows.proofs.lemmas.window_entries.ValueLemmas.{any_made, made_more, map-map}
use Rattle.windows.proofs.window_entries.computed.values_on.Goals as goal

pub returns-in_err-value-clause-overflow : goal.returns-in_err-value-clause-overflow
returns-in_err-value-clause-overflow c = λ is.
    let p = err_from_is_err_and c.from_residual-in_err-value.result c.from_residual-in_err-value.ensures.1 in
    any_made term (λ t. Overflows t (map datum_of c.args.row.now)) c.args.terms.now c.loop-expression.expression-index c.expression-item.result c.loop-expression-test.true c.expression-item.is
    (c.in_err-value.ensures.overflow (cc (is, p.1, p.2)))

pub loop-expression-preserved : goal.loop-expression-preserved
loop-expression-preserved c = λ w.
    let row = map datum_of c.args.row.now in
    rw c.in_ok-push.ensures.items
    (made_more (λ (e : Expr). eval w (term e) row) datum_of c.args.terms.now c.loop-expression.expression-index c.expression-item.result c.loop-expression.values.items c.in_ok-value.value
    c.loop-expression-test.true (sym (c.in_ok-value.ensures.value w) ∙ ap (λ (e : Expr). eval w (term e) row) c.expression-item.is) (c.loop-expression.invariant w))

pub returns-clause-values : goal.returns-clause-values
returns-clause-values c = λ w.
    let row = map datum_of c.args.row.now in
    c.loop-expression.invariant w
    ∙ ap (map (λ (e : Expr). eval w (term e) row)) (take_all c.loop-expression.expression-index c.args.terms.now c.loop-expression-test.false)
    ∙ sym (map-map (λ t. eval w t row) term c.args.terms.now)
