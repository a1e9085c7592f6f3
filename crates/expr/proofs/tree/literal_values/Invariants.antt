-- The values so far are those of the expressions before this one.
use Rattle.std.proofs.Common.{◌≡◌, map}
use Rattle.values.specs.Datum.{datum_of}
use Rattle.expr.specs.Filled.{literal_value}
use Rattle.expr.specs.View.{term}
use Rattle.expr.proofs.tree.literal_values.Given as goal

abbrev pub invariant-loop-item : goal.invariant-loop-item
invariant-loop-item l = map datum_of l.values.items ≡ map (λ e. literal_value (term e)) l.yielded
