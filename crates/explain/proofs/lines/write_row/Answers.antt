use Rattle.std.proofs.Common.{[], ◌∷◌, map}
use Rattle.std.proofs.lemmas.Result.{err_from_is_err_and}
use Rattle.std.specs.List.{join_with_byte}
use Rattle.values.specs.Literal.{literal}
use Rattle.values.proofs.SinkLemmas.{Writes-then, Writes-cut}
use Rattle.explain.proofs.lines.write_row.Goals as goal

pub returns-in_err-write_values-clause-writes : goal.returns-in_err-write_values-clause-writes
returns-in_err-write_values-clause-writes g c =
    let p = err_from_is_err_and c.from_residual.result c.from_residual.ensures.1 in
    rw (p.1, p.2)
    (Writes-cut {U = Unit {0}} _ (join_with_byte 44 (map literal (map g.V.Shown.datum c.args.values.now))) (10 ∷ []) _ _
    c.in_err-write_values.ensures.writes)

pub returns-clause-writes : goal.returns-clause-writes
returns-clause-writes g c =
    Writes-then _ _ (join_with_byte 44 (map literal (map g.V.Shown.datum c.args.values.now))) (10 ∷ []) _ _ _
    c.in_ok-write_values.ensures.writes c.write_all.ensures.writes
