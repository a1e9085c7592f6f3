use Rattle.std.proofs.Common.{◌∙◌, ap, map, sym}
use Rattle.std.proofs.lemmas.List.{take_all}
use Rattle.semantics.specs.Query as query
use Rattle.resolver_terms.specs.SelectView.{direction_of, sort_of}
use Rattle.resolver_terms.specs.declared.selects.SortTerm.{SortTerm}
use Rattle.windows.proofs.lemmas.window_entries.ValueLemmas.{made_more, map-map}
use Rattle.windows.proofs.parts.directions_of.Goals as goal

pub loop-sort-preserved : goal.loop-sort-preserved
loop-sort-preserved c =
    rw c.in_ok-push.ensures.items
    (made_more (λ (s : SortTerm). direction_of s.direction) direction_of c.args.order.now c.loop-sort.sort-index c.sort-item.result
    c.loop-sort.directions.items c.sort-item.result.direction c.loop-sort-test.true
    (ap (λ (s : SortTerm). direction_of s.direction) c.sort-item.is) c.loop-sort.invariant)

pub returns : goal.returns
returns c =
    map-map (λ (s : query.SortTerm). s.direction) sort_of c.args.order.now
    ∙ sym (ap (map (λ (s : SortTerm). direction_of s.direction)) (take_all c.loop-sort.sort-index c.args.order.now c.loop-sort-test.false))
    ∙ sym c.loop-sort.invariant
