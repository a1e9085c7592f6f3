use Rattle.std.proofs.Common.{◌<◌, All, take}
use Rattle.semantics.specs.Query.{from_width}
use Rattle.logical_plan_terms.specs.table_plans.Input.{from_of}
use Rattle.logical_plan_terms.proofs.table_plans.inputs.are_within.Given as goal

abbrev pub invariant-loop-c : goal.invariant-loop-c
invariant-loop-c l = All (λ c. c < from_width (from_of l.tables)) (take l.c-index l.columns)
