use Rattle.std.proofs.Common.{length}
use Rattle.logical_plan_terms.proofs.table_plans.tables.+plan_behind.Given as goal

abbrev pub decreases-plan_behind : goal.decreases-plan_behind
decreases-plan_behind l = length l.tables.now
