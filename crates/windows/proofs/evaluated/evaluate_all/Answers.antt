use Rattle.std.proofs.Common.{◌∙◌, map, ap, sym, Vec, Global}
use Rattle.std.proofs.lemmas.List.{take_all}
use Rattle.std.proofs.lemmas.Result.{err_from_is_err_and}
use Rattle.values.specs.Datum.{datum_of}
use Rattle.values.specs.declared.value.Value.{Value}
use Rattle.windows.proofs.lemmas.window_entries.ValueLemmas.{any_made, made_more, map-map}
use Rattle.resolver_terms.specs.declared.selects.WindowCall.{WindowCall}
use Rattle.windows.specs.Wanted.{IsReachedBy, column_of}
use Rattle.windows.proofs.evaluated.evaluate_all.Goals as goal
use Rattle.resolver_terms.specs.SelectView.{call_of}

pub loop-call-preserved : goal.loop-call-preserved
loop-call-preserved c = λ w.
    let rows = map (λ (row : Vec Value Global). map datum_of row.items) c.args.rows.now in
    rw c.in_ok-push.ensures.items
    (made_more (λ (call : WindowCall). column_of w rows (call_of call)) (λ (column : Vec Value Global). map datum_of column.items) c.args.calls.now c.loop-call.call-index c.call-item.result
    c.loop-call.columns.items c.in_ok-values.values c.loop-call-test.true
    (c.in_ok-values.ensures.values w ∙ ap (λ (call : WindowCall). column_of w rows (call_of call)) c.call-item.is) (c.loop-call.invariant w))

pub returns-clause-columns : goal.returns-clause-columns
returns-clause-columns c = λ w.
    let rows = map (λ (row : Vec Value Global). map datum_of row.items) c.args.rows.now in
    c.loop-call.invariant w
    ∙ ap (map (λ (call : WindowCall). column_of w rows (call_of call))) (take_all c.loop-call.call-index c.args.calls.now c.loop-call-test.false)
    ∙ sym (map-map (column_of w rows) call_of c.args.calls.now)

pub returns-in_err-values-clause-overflow : goal.returns-in_err-values-clause-overflow
returns-in_err-values-clause-overflow c = λ is.
    let p = err_from_is_err_and c.from_residual-in_err-values.result c.from_residual-in_err-values.ensures.1 in
    let rows = map (λ (row : Vec Value Global). map datum_of row.items) c.args.rows.now in
    any_made call_of (λ call. IsReachedBy call rows) c.args.calls.now c.loop-call.call-index c.call-item.result c.loop-call-test.true c.call-item.is
    (c.in_err-values.ensures.overflow (cc (is, p.1, p.2)))
