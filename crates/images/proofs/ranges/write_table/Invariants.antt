use Rattle.btree_cursor.specs.cursor.Left.{steps_left}
use Rattle.images.proofs.ranges.write_table.Given as goal

abbrev pub invariant-loop-cursor : goal.invariant-loop-cursor
invariant-loop-cursor g l = Unit {0}

abbrev pub decreases-loop-cursor : goal.decreases-loop-cursor
decreases-loop-cursor g l = steps_left l.cursor
