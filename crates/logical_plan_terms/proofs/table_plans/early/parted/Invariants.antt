-- Those so far are parted.
use Rattle.std.proofs.Common.{map}
use Rattle.expr.specs.View.{term}
use Rattle.logical_plan_terms.specs.table_plans.Parted.{IsParted}
use Rattle.logical_plan_terms.proofs.table_plans.early.parted.Given as goal

abbrev pub invariant-loop-e : goal.invariant-loop-e
invariant-loop-e l = IsParted l.count (map term l.yielded) (map term l.early.items) (map term l.late.items)
