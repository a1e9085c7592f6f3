use Rattle.std.proofs.lemmas.Result.{err_from_is_err_and}
use Rattle.explain.specs.Text.{after_comma}
use Rattle.explain.proofs.LineLemmas.{Writes-cut_item}
use Rattle.explain.proofs.lines.write_others.Goals as goal

pub returns-in_err-write_after_comma-clause-writes : goal.returns-in_err-write_after_comma-clause-writes
returns-in_err-write_after_comma-clause-writes g c =
    let p = err_from_is_err_and c.from_residual.result c.from_residual.ensures.1 in
    rw (p.1, p.2)
    (Writes-cut_item (λ v. after_comma (g.V.Shown.datum v)) c.args.values.now c.loop-value.value-index c.value-item.result _ _ _ _
    c.loop-value-test.true c.value-item.is c.loop-value.invariant c.in_err-write_after_comma.ensures.writes)
