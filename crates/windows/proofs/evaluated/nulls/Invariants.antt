use Rattle.std.proofs.Common.{◌-◌, ◌≤◌, length}
use Rattle.windows.proofs.evaluated.nulls.Given as goal

abbrev pub invariant-nulls : goal.invariant-nulls
invariant-nulls l = length l.values.items ≤ l.count

abbrev pub decreases-nulls : goal.decreases-nulls
decreases-nulls l = l.count - length l.values.items
