use Rattle.std.proofs.lemmas.Result.{err_from_is_err_and}
use Rattle.explain.proofs.PlanLemmas.{Writes-indent_cut, Writes-indent_more}
use Rattle.explain.proofs.plans.write_indent.Goals as goal

pub returns-in_err-write_all-clause-writes : goal.returns-in_err-write_all-clause-writes
returns-in_err-write_all-clause-writes g c =
    let p = err_from_is_err_and c.from_residual.result c.from_residual.ensures.1 in
    rw (p.1, p.2)
    (Writes-indent_cut c.loop.counter c.args.depth _ _ _ _ c.loop-test.true c.loop.invariant c.in_err-write_all.ensures.writes)

pub loop-preserved : goal.loop-preserved
loop-preserved g c = Writes-indent_more c.loop.counter _ _ _ c.loop.invariant c.in_ok-write_all.ensures.writes
