use Rattle.std.proofs.Common.{◌≡◌, ◌++◌, List, map}
use Rattle.values.specs.Row.{Row, rows_data}
use Rattle.operators_results.specs.Slices.{sliced}
use Rattle.logical_plan.specs.answers.Answers.{without}
use Rattle.operators_results.proofs.sorted_results.gathered.shown_rows.Given as goal

abbrev pub invariant-loop-row : goal.invariant-loop-row
invariant-loop-row l =
    (rest : List Row) → sliced l.fn.slice (map (without l.hidden) (rows_data l.yielded) ++ rest) ≡ rows_data l.shown.items ++ sliced l.slice rest
