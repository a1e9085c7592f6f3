use Rattle.std.proofs.Common.{◌∙◌, ◌+◌, drop, map, sym, ap}
use Rattle.std.specs.Ordering.{ordering_then}
use Rattle.values.specs.Datum.{datum_of}
use Rattle.semantics.specs.Sequence.{keys_cmp}
use Rattle.resolver_terms.specs.SelectView.{direction_of}
use Rattle.windows_groups.proofs.lemmas.window_order.KeyLemmas.{differs_first, keys_at, keys_end, some_direction, ties_first}
use Rattle.windows_groups.proofs.window_order.keys.compare_keys_from.Goals as goal

pub returns-then-ne : goal.returns-then-ne
returns-then-ne c =
    let x = map datum_of c.args.a.now in
    let y = map datum_of c.args.b.now in
    let ways = map direction_of c.args.directions.now in
    let rest = keys_cmp (drop (c.loop-at.at + 1) ways) (drop (c.loop-at.at + 1) x) (drop (c.loop-at.at + 1) y) in
    differs_first c.compare_at-ordering.result rest (sym c.ne.ensures ∙ c.if-ne.true)
    ∙ ap (λ o. ordering_then o rest) (c.compare_at-ordering.ensures some_direction)
    ∙ sym (keys_at c.args.directions.now c.loop-at.at some_direction x y c.loop-at-test.true)
    ∙ sym c.loop-at.invariant

pub loop-at-preserved : goal.loop-at-preserved
loop-at-preserved c =
    let x = map datum_of c.args.a.now in
    let y = map datum_of c.args.b.now in
    let ways = map direction_of c.args.directions.now in
    let rest = keys_cmp (drop (c.loop-at.at + 1) ways) (drop (c.loop-at.at + 1) x) (drop (c.loop-at.at + 1) y) in
    c.loop-at.invariant
    ∙ keys_at c.args.directions.now c.loop-at.at some_direction x y c.loop-at-test.true
    ∙ ap (λ o. ordering_then o rest) (sym (c.compare_at-ordering.ensures some_direction))
    ∙ ties_first c.compare_at-ordering.result rest (sym c.ne.ensures ∙ c.if-ne.false)

pub returns : goal.returns
returns c =
    keys_end c.args.directions.now c.loop-at.at (map datum_of c.args.a.now) (map datum_of c.args.b.now) c.loop-at-test.false ∙ sym c.loop-at.invariant
