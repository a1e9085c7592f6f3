use Rattle.std.proofs.Common.{◌≡◌, ◌++◌, flat_map, take}
use Rattle.expr.specs.Columns.{columns_of}
use Rattle.logical_plan_terms.specs.table_plans.Input.{from_of}
use Rattle.logical_plan_terms.specs.table_plans.Planned.{on_terms}
use Rattle.logical_plan_queries.proofs.select_plans.columns.push_on.Given as goal

abbrev pub invariant-loop-table : goal.invariant-loop-table
invariant-loop-table l = l.out.items ≡ l.initial.out.items ++ flat_map columns_of (on_terms (from_of (take l.table-index l.tables)))
