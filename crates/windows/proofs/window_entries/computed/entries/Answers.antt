use Rattle.std.proofs.Common.{◌≡◌, ◌∙◌, Global, Vec, length, map, ap, refl, sym, arith}
use Rattle.std.specs.List.{range_with_len}
use Rattle.std.proofs.lemmas.List.{take_all}
use Rattle.values.specs.Datum.{datum_of}
use Rattle.values.specs.declared.value.Value.{Value}
use Rattle.expr.specs.Meaning.{eval}
use Rattle.expr.specs.View.{term}
use Rattle.semantics.specs.Valuation.{term_values}
use Rattle.windows_groups.specs.declared.window_order.sorting.Entry.{Entry}
use Rattle.windows.proofs.lemmas.window_entries.ValueLemmas.{made_more, map-map, placed_more}
use Rattle.windows.proofs.window_entries.computed.entries.Goals as goal

pub loop-index-preserved : goal.loop-index-preserved
loop-index-preserved c =
    let rows = c.args.rows.now in
    let terms = map term c.args.terms.now in
    let at = c.loop-index.index in
    let row = c.index-rows-index.result in
    rw c.in_ok-push.ensures.items
    (record {
      places = placed_more (λ (e : Entry). e.index) c.loop-index.placed.items _ at c.loop-index.invariant.places refl;
      rows = made_more (λ (row : Vec Value Global). map datum_of row.items) (λ (e : Entry). map datum_of e.row.now) rows at row c.loop-index.placed.items _ c.loop-index-test.true
          (ap (map datum_of) c.as_slice-row.ensures.value ∙ ap (λ (r : Vec Value Global). map datum_of r.items) c.index-rows-index.is) c.loop-index.invariant.rows;
      keys = λ w. made_more (λ (row : Vec Value Global). term_values (eval w) terms (map datum_of row.items)) (λ (e : Entry). map datum_of e.keys.items) rows at row c.loop-index.placed.items _ c.loop-index-test.true
          (c.in_ok-keys.ensures.values w ∙ ap (λ values. term_values (eval w) terms (map datum_of values)) c.as_slice-row.ensures.value
          ∙ ap (λ (r : Vec Value Global). term_values (eval w) terms (map datum_of r.items)) c.index-rows-index.is) (c.loop-index.invariant.keys w);
    })

pub returns-clause-keys : goal.returns-clause-keys
returns-clause-keys c = λ w.
    let terms = map term c.args.terms.now in
    c.loop-index.invariant.keys w
    ∙ ap (map (λ (row : Vec Value Global). term_values (eval w) terms (map datum_of row.items))) (take_all c.loop-index.index c.args.rows.now c.loop-index-test.false)
    ∙ sym (map-map (term_values (eval w) terms) (λ (row : Vec Value Global). map datum_of row.items) c.args.rows.now)

pub returns-clause-places : goal.returns-clause-places
returns-clause-places c =
    let all : c.loop-index.index ≡ length c.args.rows.now = omega arith in
    c.loop-index.invariant.places ∙ ap (range_with_len 0) all
