use Rattle.std.proofs.Common.{◌∙◌, ◌+◌, drop, map, sym, ap}
use Rattle.std.specs.Ordering.{ordering_then}
use Rattle.values.specs.Datum.{datum_of}
use Rattle.semantics.specs.Sequence.{keys_cmp}
use Rattle.windows_groups.specs.Keys.{directions, key_values}
use Rattle.windows_groups.proofs.OrderLemmas.{differs_first, keys_at, keys_end, ties_first}
use Rattle.windows_groups.proofs.order.compare_rows.Goals as goal

pub returns-then-ne : goal.returns-then-ne
returns-then-ne c =
    let order = c.args.order.now in
    let x = map datum_of c.args.a.now in
    let y = map datum_of c.args.b.now in
    let rest = keys_cmp (drop (c.loop-at.at + 1) (directions order)) (drop (c.loop-at.at + 1) (key_values order x)) (drop (c.loop-at.at + 1) (key_values order y)) in
    differs_first c.compare_at-ordering.result rest (sym c.ne.ensures ∙ c.if-ne.true)
    ∙ ap (λ o. ordering_then o rest) c.compare_at-ordering.ensures
    ∙ sym (keys_at order c.loop-at.at _ x y c.loop-at-test.true)
    ∙ sym c.loop-at.invariant

pub loop-at-preserved : goal.loop-at-preserved
loop-at-preserved c =
    let order = c.args.order.now in
    let x = map datum_of c.args.a.now in
    let y = map datum_of c.args.b.now in
    let rest = keys_cmp (drop (c.loop-at.at + 1) (directions order)) (drop (c.loop-at.at + 1) (key_values order x)) (drop (c.loop-at.at + 1) (key_values order y)) in
    c.loop-at.invariant
    ∙ keys_at order c.loop-at.at _ x y c.loop-at-test.true
    ∙ ap (λ o. ordering_then o rest) (sym c.compare_at-ordering.ensures)
    ∙ ties_first c.compare_at-ordering.result rest (sym c.ne.ensures ∙ c.if-ne.false)

pub returns : goal.returns
returns c =
    keys_end c.args.order.now c.loop-at.at (map datum_of c.args.a.now) (map datum_of c.args.b.now) c.loop-at-test.false ∙ sym c.loop-at.invariant
