use Rattle.std.proofs.Common.{take, Ok}
use Rattle.values.specs.Sink.{Writes}
use Rattle.explain.specs.Text.{rows_text}
use Rattle.explain.proofs.lines.rows_text.Given as goal

abbrev pub invariant-loop-row : goal.invariant-loop-row
invariant-loop-row g l = Writes (rows_text (take l.row-index l.rows)) (Ok (tt {0})) (g.S.Sink.facts l.initial.out) (g.S.Sink.facts l.out)
