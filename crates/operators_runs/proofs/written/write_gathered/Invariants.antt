use Rattle.std.specs.Prelude.{length}
use Rattle.operators_runs.proofs.WrittenLemmas.{Lines}
use Rattle.operators_runs.proofs.written.write_gathered.Given as goal

abbrev pub invariant-lines : goal.invariant-lines
invariant-lines g l = Lines l.fn.rows l.rows l.written (g.W.Sink.facts l.fn.out) (g.W.Sink.facts l.out)

abbrev pub decreases-lines : goal.decreases-lines
decreases-lines g l = length l.rows
