use Rattle.std.proofs.Common.{◌∙◌, arith, sym, append-nil}
use Rattle.std.proofs.lemmas.Grind.{common_steps}
use Rattle.values.proofs.SinkLemmas.{Appends-more, Appends-then}
use Rattle.values.proofs.sink.write_front.Goals as goal

pub loop-done-preserved : goal.loop-done-preserved
loop-done-preserved g c = record {
  within = grind (arith, common_steps);
  written = Appends-more _ _ _ _ _ _ c.loop-done.invariant.written c.in-Ok.ensures.takes.0;
  failures = c.in-Ok.ensures.takes.1 ∙ c.loop-done.invariant.failures;
}

pub returns-in-Err-clause-writes : goal.returns-in-Err-clause-writes
returns-in-Err-clause-writes g c = record {
  written = rw append-nil at (Appends-then _ _ _ _ _ c.loop-done.invariant.written c.in-Err.ensures.takes.0);
  failures = λ same. c.in-Err.ensures.takes.1 (same ∙ sym c.loop-done.invariant.failures);
}
