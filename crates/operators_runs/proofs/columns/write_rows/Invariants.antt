use Rattle.btree_cursor.specs.cursor.Left.{steps_left}
use Rattle.operators_runs.proofs.StreamLemmas.{Streaming}
use Rattle.operators_runs.proofs.columns.write_rows.Given as goal

abbrev pub invariant-loop-cursor : goal.invariant-loop-cursor
invariant-loop-cursor g l =
    Streaming l.fn.pager.state l.pager.state l.fn.table l.fn.columns l.cursor l.count (g.W.Sink.facts l.fn.out) (g.W.Sink.facts l.out)

abbrev pub decreases-loop-cursor : goal.decreases-loop-cursor
decreases-loop-cursor g l = steps_left l.cursor
