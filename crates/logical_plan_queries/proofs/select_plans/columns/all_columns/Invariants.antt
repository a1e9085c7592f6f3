use Rattle.std.proofs.Common.{◌≡◌, take}
use Rattle.std.specs.List.{range_with_len}
use Rattle.semantics.specs.Query.{from_width}
use Rattle.logical_plan_terms.specs.table_plans.Input.{from_of}
use Rattle.logical_plan_queries.proofs.select_plans.columns.all_columns.Given as goal

abbrev pub invariant-loop-table : goal.invariant-loop-table
invariant-loop-table l = l.columns.items ≡ range_with_len 0 (from_width (from_of (take l.table-index l.tables)))
