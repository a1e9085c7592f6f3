use Rattle.std.proofs.Common.{◌∙◌, ◌+◌, ◌<◌, ◌^◌, ℕ, List, [], arith, length, map, rules, subst, sym, take}
use Rattle.std.proofs.lemmas.List.{length-map, take_all}
use Rattle.expr.specs.View.{term}
use Rattle.resolver_terms.specs.SelectView.{key_of}
use Rattle.resolver_terms.specs.declared.selects.Key.{Key}
use Rattle.windows_groups.specs.declared.order.ResultKey.{ResultKey}
use Rattle.logical_plan_queries.specs.Places.{IsPlacedOver}
use Rattle.logical_plan_queries.proofs.KeyLemmas.{ArePlacedOver, all_placed, key_placed, none_placed, not_all}
use Rattle.logical_plan_queries.proofs.orders.order_over.Goals as goal

pub loop-key-init : goal.loop-key-init
loop-key-init c = record {
  width = c.len-width.ensures ∙ c.args.columns.now.ok.0;
  placed =
      subst (λ (keys : List ResultKey). ArePlacedOver c.args.read.now [] (map term c.args.columns.now.items) (map term c.args.columns.now.items) keys)
      (sym c.in_ok-keys.ensures.items) (none_placed c.args.read.now (map term c.args.columns.now.items));
}

pub returns-in-None-clause-over : goal.returns-in-None-clause-over
returns-in-None-clause-over c =
    not_all c.args.read.now c.args.order.now c.loop-key.key-index c.key-item.result c.loop-key-test.true c.key-item.is
    (rw c.in-None.is at c.in_ok-placed.ensures.over)

pub loop-key-preserved : goal.loop-key-preserved
loop-key-preserved c =
    let read = c.args.read.now in
    let key = c.key-item.result in
    let place = c.key_at.result in
    let shown = map term c.args.columns.now.items in
    let wide = map term c.loop-key.columns.items in
    let now = map term c.place_over.new.columns.items in
    let is =
    subst (λ (n : ℕ). IsPlacedOver read n (key_of key).by wide now c.in-Some.at)
    (c.loop-key.invariant.width ∙ sym (length-map c.args.columns.now.items term)) (rw c.in-Some.is at c.in_ok-placed.ensures.placed) in record {
      width = c.loop-key.invariant.width;
      placed =
          subst (λ (places : List ResultKey). ArePlacedOver read (map key_of (take (c.loop-key.key-index + 1) c.args.order.now)) shown now places)
          (sym c.in_ok-push.ensures.items)
          (key_placed read c.args.order.now c.loop-key.key-index key c.loop-key-test.true c.key-item.is shown wide now c.loop-key.keys.items place
          c.loop-key.invariant.placed c.key_at.ensures.direction
          (subst (λ (at : ℕ). IsPlacedOver read (length shown) (key_of key).by wide now at) (sym c.key_at.ensures.at) is));
    }

pub overflow_sub-hidden : goal.overflow_sub-hidden
overflow_sub-hidden c =
    let next = c.loop-key.invariant.placed.places_are.next_is in
    let width = c.loop-key.invariant.width in
    let wide = length-map c.loop-key.columns.items term in
    let first = length-map c.args.columns.now.items term in
    let count = c.len-count.ensures ∙ c.loop-key.columns.ok.0 in
    omega (arith, next, width, wide, first, count)

pub returns-clause-placed : goal.returns-clause-placed
returns-clause-placed c =
    let shown = map term c.args.columns.now.items in
    let wide = map term c.loop-key.columns.items in
    let all = take_all c.loop-key.key-index c.args.order.now c.loop-key-test.false in
    let long = length-map c.loop-key.columns.items term in
    let first = length-map c.args.columns.now.items term in
    let width = c.loop-key.invariant.width in
    let count = c.len-count.ensures ∙ c.loop-key.columns.ok.0 in
    let few : length c.loop-key.columns.items < 2 ^ 63 = search rules in
    all_placed c.args.read.now (map key_of c.args.order.now) shown wide c.loop-key.keys.items _
    (subst (λ (keys : List Key). ArePlacedOver c.args.read.now (map key_of keys) shown wide c.loop-key.keys.items) all c.loop-key.invariant.placed)
    (omega (arith, long, few)) (omega (arith, long, first, width, count))
