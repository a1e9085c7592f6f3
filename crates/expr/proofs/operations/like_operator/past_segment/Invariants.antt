use Rattle.std.proofs.Common.{◌≡◌, ◌≤◌, length}
use Rattle.expr.specs.operations.Like.{past}
use Rattle.expr.proofs.operations.like_operator.past_segment.Given as goal

abbrev pub invariant-loop-front : goal.invariant-loop-front
invariant-loop-front l =
    (past l.segment l.rest ≡ past l.pattern l.text)
    × (length l.segment ≤ length l.pattern)
    × (length l.rest ≤ length l.text)

abbrev pub decreases-loop-front : goal.decreases-loop-front
decreases-loop-front l = length l.segment
