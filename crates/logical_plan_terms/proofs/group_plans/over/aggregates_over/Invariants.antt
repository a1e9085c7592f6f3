use Rattle.std.proofs.Common.{map, take}
use Rattle.std.specs.List.{AllZip}
use Rattle.logical_plan_terms.specs.group_plans.Grouped.{AggregateStandsOver}
use Rattle.resolver_terms.specs.SelectView.{aggregate_of}
use Rattle.logical_plan_terms.proofs.group_plans.over.aggregates_over.Given as goal

abbrev pub invariant-loop-aggregate : goal.invariant-loop-aggregate
invariant-loop-aggregate l = AllZip (AggregateStandsOver l.read l.inner) (map aggregate_of l.over.items) (map aggregate_of (take l.aggregate-index l.aggregates))
