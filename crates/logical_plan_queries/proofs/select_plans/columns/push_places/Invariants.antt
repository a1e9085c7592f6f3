use Rattle.std.proofs.Common.{◌≡◌, ◌+◌, length}
use Rattle.std.specs.List.{range_with_len}
use Rattle.logical_plan_queries.proofs.select_plans.columns.push_places.Given as goal

abbrev pub invariant-loop : goal.invariant-loop
invariant-loop l = l.out.items ≡ range_with_len 0 (length l.fn.out.items + l.counter)
