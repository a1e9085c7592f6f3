-- Columns of each row of a table, as rows of a SELECT.
use Rattle.std.specs.Prelude.{[], ℕ, false, List, length, map, None}
use Rattle.std.specs.List.{range_with_len}
use Rattle.expr.specs.Term.{column}
use Rattle.logical_plan.specs.Plan.{PlanData, joined, once}
use Rattle.logical_plan.specs.answers.Arms.{ArmData}

-- these columns of the table at a place of the catalog, behind one row of no values
abbrev pub columns_plan : ℕ → List ℕ → PlanData
columns_plan at places = joined once (record { table = at; columns = places; tests = []; padded = false; search = None })

-- all columns of that plan's rows
abbrev pub columns_arm : ℕ → List ℕ → ArmData
columns_arm at places = record {
  plan = columns_plan at places;
  columns = map column (range_with_len 0 (length places));
  distinct = false;
}
