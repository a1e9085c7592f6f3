use Rattle.btree_cursor.specs.cursor.Left.{steps_left}
use Rattle.images.proofs.ranges.write_index.Given as goal

abbrev pub invariant-loop-key : goal.invariant-loop-key
invariant-loop-key g l = Unit {0}

abbrev pub decreases-loop-key : goal.decreases-loop-key
decreases-loop-key g l = steps_left l.cursor
