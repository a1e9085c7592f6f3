use Rattle.std.proofs.lemmas.Result.{err_from_is_err_and}
use Rattle.values.specs.Literal.{hex}
use Rattle.values.proofs.SinkLemmas.{Writes-cut_at}
use Rattle.values.proofs.literal.write_hex.Goals as goal

pub returns-in_err-write_all-clause-writes : goal.returns-in_err-write_all-clause-writes
returns-in_err-write_all-clause-writes g c =
    let p = err_from_is_err_and c.from_residual.result c.from_residual.ensures.1 in
    rw (p.1, p.2)
    (Writes-cut_at hex c.args.bytes.now c.loop-byte.byte-index 0 _ _ _ _ c.loop-byte-test.true c.loop-byte.invariant
    (rw (c.hex_digit_of.ensures, c.hex_digit_of-in-loop-byte.ensures) at c.in_err-write_all.ensures.writes))
