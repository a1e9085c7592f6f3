use Rattle.std.proofs.Common.{take, Ok}
use Rattle.values.specs.Literal.{hex_all}
use Rattle.values.specs.Sink.{Writes}
use Rattle.values.proofs.literal.write_hex.Given as goal

abbrev pub invariant-loop-byte : goal.invariant-loop-byte
invariant-loop-byte g l = Writes (hex_all (take l.byte-index l.bytes)) (Ok (tt {0})) (g.S.Sink.facts l.initial.out) (g.S.Sink.facts l.out)
