use Rattle.std.proofs.Common.{◌≡◌, map}
use Rattle.std.specs.List.{range_with_len}
use Rattle.expr.specs.Term.{column}
use Rattle.expr.specs.View.{term}
use Rattle.operators_runs.proofs.execution.columns.whole_row.Given as goal

abbrev pub invariant-loop-at : goal.invariant-loop-at
invariant-loop-at l = map term l.columns.items ≡ map column (range_with_len 0 l.at)
