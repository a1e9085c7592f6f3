use Rattle.operators_runs.specs.execution.Given.{steps_left}
use Rattle.operators_runs.proofs.WrittenLemmas.{Writing}
use Rattle.operators_runs.proofs.written.write_each.Given as goal

abbrev pub invariant-rows : goal.invariant-rows
invariant-rows g l =
    Writing l.fn.pager.state l.pager.state l.sources l.fn.execution l.execution l.count (g.W.Sink.facts l.fn.out) (g.W.Sink.facts l.out)

abbrev pub decreases-rows : goal.decreases-rows
decreases-rows g l = steps_left l.sources l.execution
