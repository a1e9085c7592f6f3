-- The rows so far, and those that are left.
use Rattle.values.specs.Row.{rows_data}
use Rattle.std.proofs.Common.{◌≡◌, ◌++◌}
use Rattle.windows_groups.proofs.distinct_rows.sets.rows_of.Given as goal

abbrev pub invariant-loop-row : goal.invariant-loop-row
invariant-loop-row l = rows_data l.rows.items ++ l.row-iterator ≡ l.initial.row-iterator
