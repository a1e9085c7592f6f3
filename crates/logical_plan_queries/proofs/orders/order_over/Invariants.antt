use Rattle.std.proofs.Common.{◌≡◌, length, map, take}
use Rattle.expr.specs.View.{term}
use Rattle.resolver_terms.specs.SelectView.{key_of}
use Rattle.logical_plan_queries.proofs.KeyLemmas.{ArePlacedOver}
use Rattle.logical_plan_queries.proofs.orders.order_over.Given as goal

abbrev pub invariant-loop-key : goal.invariant-loop-key
invariant-loop-key l = record {
  width : l.width ≡ length l.initial.columns.items;
  placed : ArePlacedOver l.read (map key_of (take l.key-index l.order)) (map term l.initial.columns.items) (map term l.columns.items) l.keys.items;
}
