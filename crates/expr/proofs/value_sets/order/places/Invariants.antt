-- The places so far.
use Rattle.std.proofs.Common.{◌<◌, Contains, ℕ}
use Rattle.expr.proofs.value_sets.order.places.Given as goal

abbrev pub invariant-loop-at : goal.invariant-loop-at
invariant-loop-at l = (at : ℕ) → at < l.at → Contains l.places.items at
