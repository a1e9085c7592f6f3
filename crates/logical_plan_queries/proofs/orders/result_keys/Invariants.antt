use Rattle.std.proofs.Common.{◌≡◌, map, take}
use Rattle.logical_plan.specs.answers.Permitted.{AreResults}
use Rattle.windows_groups.specs.Keys.{result_key}
use Rattle.resolver_terms.specs.SelectView.{key_of}
use Rattle.logical_plan_queries.proofs.orders.result_keys.Given as goal

abbrev pub invariant-loop-key : goal.invariant-loop-key
invariant-loop-key l = record {
  all : AreResults (map key_of (take l.key-index l.order));
  same : map result_key l.keys.items ≡ map key_of (take l.key-index l.order);
}
