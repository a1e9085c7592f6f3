use Rattle.std.proofs.Common.{◌≡◌, ◌+◌, take}
use Rattle.semantics.specs.Query.{from_width}
use Rattle.logical_plan_terms.specs.table_plans.Input.{from_of}
use Rattle.logical_plan_terms.proofs.table_plans.columns.place_behind.Given as goal

abbrev pub invariant-loop-table : goal.invariant-loop-table
invariant-loop-table l = l.column ≡ from_width (from_of (take l.table-index l.tables)) + l.place
