use Rattle.std.proofs.Common.{◌≡◌, ◌≤◌, ◌-◌, ℕ, List, length, take}
use Rattle.std.specs.Io.KnownBytes.{Appends}
use Rattle.values.specs.Sink.{SinkFacts}
use Rattle.values.proofs.sink.write_front.Given as goal

-- so many bytes of the text are written, and nothing has failed
pub record Wrote (text : List ℕ) (done : ℕ) (start now : SinkFacts) : Type 0 where
  pub within : done ≤ length text
  pub written : Appends start.written now.written (take done text)
  pub failures : now.failures ≡ start.failures

abbrev pub invariant-loop-done : goal.invariant-loop-done
invariant-loop-done g l = Wrote l.text l.done (g.S.Sink.facts l.initial.out) (g.S.Sink.facts l.out)

abbrev pub decreases-loop-done : goal.decreases-loop-done
decreases-loop-done g l = length l.text - l.done
