use Rattle.std.proofs.Common.{[], ◌∷◌}
use Rattle.std.proofs.lemmas.Result.{err_from_is_err_and}
use Rattle.values.specs.Literal.{literal}
use Rattle.values.proofs.SinkLemmas.{Writes-then, Writes-cut}
use Rattle.explain.proofs.lines.write_after_comma.Goals as goal

pub returns-in_err-write_all-clause-writes : goal.returns-in_err-write_all-clause-writes
returns-in_err-write_all-clause-writes g c =
    let p = err_from_is_err_and c.from_residual.result c.from_residual.ensures.1 in
    rw (p.1, p.2) (Writes-cut {U = Unit {0}} _ (44 ∷ []) (literal (g.V.Shown.datum c.args.value.now)) _ _ c.in_err-write_all.ensures.writes)

pub returns-clause-writes : goal.returns-clause-writes
returns-clause-writes g c =
    Writes-then _ _ (44 ∷ []) (literal (g.V.Shown.datum c.args.value.now)) _ _ _ c.in_ok-write_all.ensures.writes c.write.ensures.writes
