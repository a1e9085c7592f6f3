use Rattle.values.proofs.SinkLemmas.{Writes-front}
use Rattle.values.proofs.sink.write_pieces.Goals as goal

pub returns-in_default-Err-clause-writes : goal.returns-in_default-Err-clause-writes
returns-in_default-Err-clause-writes g c = record {
  written = Writes-front _ _ _ _ c.write_front.ensures.writes.written;
  failures = λ _. rw c.in_default-Err.is-1 at c.write_front.ensures.writes.failures;
}
