use Rattle.std.proofs.Common.{length}
use Rattle.logical_plan_terms.proofs.table_plans.written.+written_behind.Given as goal

abbrev pub decreases-written_behind : goal.decreases-written_behind
decreases-written_behind l = length l.tables.now
