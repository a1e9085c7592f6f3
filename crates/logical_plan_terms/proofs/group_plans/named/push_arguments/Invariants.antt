use Rattle.std.proofs.Common.{◌≡◌, ◌++◌, flat_map, map, take}
use Rattle.expr.specs.Columns.{columns_of}
use Rattle.semantics.specs.Query.{Aggregate}
use Rattle.resolver_terms.specs.SelectView.{aggregate_of}
use Rattle.logical_plan_terms.proofs.group_plans.named.push_arguments.Given as goal

abbrev pub invariant-loop-aggregate : goal.invariant-loop-aggregate
invariant-loop-aggregate l =
    l.out.items ≡ l.initial.out.items
    ++ flat_map columns_of (map (λ (a : Aggregate). a.argument) (map aggregate_of (take l.aggregate-index l.aggregates)))
