use Rattle.std.proofs.Common.{◌≡◌, map}
use Rattle.std.specs.List.{range_with_len}
use Rattle.expr.specs.Leaves.{place_in}
use Rattle.logical_plan_queries.proofs.select_plans.base.places_written.Given as goal

abbrev pub invariant-loop-column : goal.invariant-loop-column
invariant-loop-column l = l.places.items ≡ map (place_in l.read) (range_with_len 0 l.column)
