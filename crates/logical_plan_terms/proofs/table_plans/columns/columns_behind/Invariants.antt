use Rattle.std.proofs.Common.{◌≡◌, ◌+◌, map, take}
use Rattle.semantics.specs.Query.{from_width}
use Rattle.logical_plan_terms.specs.table_plans.Input.{from_of}
use Rattle.logical_plan_terms.specs.table_plans.Parted.{columns_from}
use Rattle.logical_plan_terms.proofs.table_plans.columns.columns_behind.Given as goal

abbrev pub invariant-loop-column : goal.invariant-loop-column
invariant-loop-column l =
    map (λ c. from_width (from_of l.tables) + c) l.columns.items ≡ columns_from (from_width (from_of l.tables)) (take l.column-index l.read)
