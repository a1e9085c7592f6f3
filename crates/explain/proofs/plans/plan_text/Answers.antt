use Rattle.std.proofs.Common.{take}
use Rattle.std.proofs.lemmas.List.Folds.{flat_map-map}
use Rattle.std.proofs.lemmas.Result.{err_from_is_err_and}
use Rattle.explain.specs.PlanText.{line_data, line_text}
use Rattle.explain.proofs.LineLemmas.{Writes-cut_item}
use Rattle.explain.proofs.plans.plan_text.Goals as goal

pub returns-in_err-write_line-clause-writes : goal.returns-in_err-write_line-clause-writes
returns-in_err-write_line-clause-writes g c =
    let p = err_from_is_err_and c.from_residual.result c.from_residual.ensures.1 in
    let lines = c.args.lines.now in
    rw (p.1, p.2, flat_map-map line_text line_data lines)
    (Writes-cut_item (λ line. line_text (line_data line)) lines c.loop-line.line-index c.line-item.result _ _ _ _ c.loop-line-test.true
    c.line-item.is (rw (flat_map-map line_text line_data (take c.loop-line.line-index lines)) at c.loop-line.invariant)
    c.in_err-write_line.ensures.writes)
