use Rattle.std.proofs.Common.{length, ◌-◌}
use Rattle.values.proofs.QuoteLemmas.{Quoting}
use Rattle.values.proofs.literal.write_quoted.Given as goal

abbrev pub invariant-loop-ahead : goal.invariant-loop-ahead
invariant-loop-ahead g l = Quoting l.text l.piece l.seen (g.S.Sink.facts l.initial.out) (g.S.Sink.facts l.out)

abbrev pub decreases-loop-ahead : goal.decreases-loop-ahead
decreases-loop-ahead g l = length l.piece - l.seen
