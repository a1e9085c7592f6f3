use Rattle.std.proofs.Common.{rules, ◌<◌, ◌+◌, length}
use Rattle.std.proofs.lemmas.Result.{err_from_is_err_and}
use Rattle.values.proofs.SinkLemmas.{Writes-then}
use Rattle.values.proofs.QuoteLemmas.{Quoting-within, Quoting-cut, Quoting-more, Quoting-last}
use Rattle.values.proofs.literal.write_quoted.Goals as goal

pub overflow_add-quote : goal.overflow_add-quote
overflow_add-quote g c =
    let within : c.loop-ahead.seen + c.in-Some.ahead < length c.loop-ahead.piece.now = Quoting-within _ _ _ _ _ c.loop-ahead.invariant c.in-Some.ahead c.in-Some.ensures in
    search rules

pub overflow_add-quote-in-Some : goal.overflow_add-quote-in-Some
overflow_add-quote-in-Some g c =
    let within : c.loop-ahead.seen + c.in-Some.ahead < length c.loop-ahead.piece.now = Quoting-within _ _ _ _ _ c.loop-ahead.invariant c.in-Some.ahead c.in-Some.ensures in
    search rules

pub returns-in_err-write_all-clause-writes : goal.returns-in_err-write_all-clause-writes
returns-in_err-write_all-clause-writes g c =
    let p = err_from_is_err_and c.from_residual.result c.from_residual.ensures.1 in
    rw (p.1, p.2) (Quoting-cut _ _ _ _ _ c.loop-ahead.invariant c.in-Some.ahead c.in-Some.ensures _ _ c.in_err-write_all.ensures.writes)

pub loop-ahead-preserved : goal.loop-ahead-preserved
loop-ahead-preserved g c = Quoting-more _ _ _ _ _ c.loop-ahead.invariant c.in-Some.ahead c.in-Some.ensures _ _ c.in_ok-write_all.ensures.writes

pub returns-clause-writes : goal.returns-clause-writes
returns-clause-writes g c =
    rw (← Quoting-last _ _ _ _ _ c.loop-ahead.invariant c.in_default.ensures)
    (Writes-then _ _ c.loop-ahead.invariant.done _ _ _ _ c.loop-ahead.invariant.writes c.write_all-2.ensures.writes)
