use Rattle.std.proofs.Common.{◌∙◌, map, ap, sym}
use Rattle.std.proofs.lemmas.List.{take_all}
use Rattle.std.proofs.lemmas.Result.{err_from_is_err_and}
use Rattle.values.specs.Datum.{datum_of}
use Rattle.expr.specs.Meaning.{Overflows, eval}
use Rattle.expr.specs.View.{term}
use Rattle.windows_groups.specs.declared.window_order.sorting.Entry.{Entry}
use Rattle.windows.proofs.lemmas.window_entries.ValueLemmas.{any_made, made_more, map-map}
use Rattle.windows.proofs.window_results.computed.values_of.Goals as goal

pub loop-entry-preserved : goal.loop-entry-preserved
loop-entry-preserved c = λ w.
    rw c.in_ok-push.ensures.items
    (made_more (λ (e : Entry). eval w (term c.args.expression.now) (map datum_of e.row.now)) datum_of c.args.sequence.now.entries.now c.loop-entry.entry-index c.entry-item.result
    c.loop-entry.values.items c.in_ok-value.value c.loop-entry-test.true
    (sym (c.in_ok-value.ensures.value w) ∙ ap (λ (e : Entry). eval w (term c.args.expression.now) (map datum_of e.row.now)) c.entry-item.is) (c.loop-entry.invariant w))

pub returns-clause-values : goal.returns-clause-values
returns-clause-values c = λ w.
    c.loop-entry.invariant w
    ∙ ap (map (λ (e : Entry). eval w (term c.args.expression.now) (map datum_of e.row.now))) (take_all c.loop-entry.entry-index c.args.sequence.now.entries.now c.loop-entry-test.false)
    ∙ sym (map-map (eval w (term c.args.expression.now)) (λ (e : Entry). map datum_of e.row.now) c.args.sequence.now.entries.now)

pub returns-in_err-value-clause-overflow : goal.returns-in_err-value-clause-overflow
returns-in_err-value-clause-overflow c = λ is.
    let p = err_from_is_err_and c.from_residual-in_err-value.result c.from_residual-in_err-value.ensures.1 in
    any_made (λ (e : Entry). map datum_of e.row.now) (Overflows (term c.args.expression.now)) c.args.sequence.now.entries.now c.loop-entry.entry-index c.entry-item.result c.loop-entry-test.true c.entry-item.is
    (c.in_err-value.ensures.overflow (cc (is, p.1, p.2)))
