use Rattle.std.proofs.Common.{◌≡◌, ◌++◌, flat_map, map, take}
use Rattle.expr.specs.Columns.{columns_of}
use Rattle.semantics.specs.Hits.{order_terms}
use Rattle.logical_plan_queries.proofs.select_plans.columns.push_order.Given as goal
use Rattle.resolver_terms.specs.SelectView.{key_of}

abbrev pub invariant-loop-key : goal.invariant-loop-key
invariant-loop-key l = l.out.items ≡ l.initial.out.items ++ flat_map columns_of (order_terms (map key_of (take l.key-index l.order)))
