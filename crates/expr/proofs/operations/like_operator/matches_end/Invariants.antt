use Rattle.std.proofs.Common.{◌≡◌, ◌+◌, length}
use Rattle.expr.specs.operations.Like.{likes, any_rest}
use Rattle.expr.proofs.operations.like_operator.matches_end.Given as goal

abbrev pub invariant-loop-left : goal.invariant-loop-left
invariant-loop-left l = any_rest (likes l.segments) l.rest ≡ any_rest (likes l.pattern) l.text

abbrev pub decreases-loop-left : goal.decreases-loop-left
decreases-loop-left l = length l.segments + length l.rest
