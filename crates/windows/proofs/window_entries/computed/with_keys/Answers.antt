use Rattle.std.proofs.Common.{◌∙◌, map, ap, sym}
use Rattle.std.proofs.lemmas.List.{take_all}
use Rattle.values.specs.Datum.{datum_of}
use Rattle.expr.specs.Meaning.{eval}
use Rattle.resolver_terms.specs.SelectView.{sort_of}
use Rattle.windows.specs.window_partitions.Tagged.{terms_of}
use Rattle.semantics.specs.Valuation.{term_values}
use Rattle.windows_groups.specs.declared.window_order.sorting.Entry.{Entry}
use Rattle.windows.proofs.lemmas.window_entries.ValueLemmas.{made_more, map-map}
use Rattle.windows.proofs.window_entries.computed.with_keys.Goals as goal

pub loop-entry-preserved : goal.loop-entry-preserved
loop-entry-preserved c =
    let entries = c.args.entries.now in
    let terms = terms_of (map sort_of c.args.order.now) in
    let at = c.loop-entry.entry-index in
    let entry = c.entry-item.result in
    rw c.in_ok-push.ensures.items
    (record {
      rows = made_more (λ (e : Entry). (map datum_of e.row.now, e.index)) (λ (e : Entry). (map datum_of e.row.now, e.index)) entries at entry c.loop-entry.placed.items _ c.loop-entry-test.true
          (ap (λ (e : Entry). (map datum_of e.row.now, e.index)) c.entry-item.is) c.loop-entry.invariant.rows;
      keys = λ w. made_more (λ (e : Entry). term_values (eval w) terms (map datum_of e.row.now)) (λ (e : Entry). map datum_of e.keys.items) entries at entry c.loop-entry.placed.items _ c.loop-entry-test.true
          (c.in_ok-keys.ensures.values w ∙ ap (λ (e : Entry). term_values (eval w) terms (map datum_of e.row.now)) c.entry-item.is) (c.loop-entry.invariant.keys w);
    })

pub returns-clause-keys : goal.returns-clause-keys
returns-clause-keys c = λ w.
    let terms = terms_of (map sort_of c.args.order.now) in
    c.loop-entry.invariant.keys w
    ∙ ap (map (λ (e : Entry). term_values (eval w) terms (map datum_of e.row.now))) (take_all c.loop-entry.entry-index c.args.entries.now c.loop-entry-test.false)
    ∙ sym (map-map (term_values (eval w) terms) (λ (e : Entry). map datum_of e.row.now) c.args.entries.now)
