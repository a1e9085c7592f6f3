use Rattle.std.proofs.Common.{[], ◌∷◌}
use Rattle.std.specs.Prelude.{string_bytes}
use Rattle.std.proofs.lemmas.Result.{err_from_is_err_and}
use Rattle.values.proofs.SinkLemmas.{Writes-around, Writes-around_cut, Writes-around_open}
use Rattle.explain.specs.PlanText.{indent}
use Rattle.explain.proofs.plans.write_line.Goals as goal

pub returns-in_err-write_indent-clause-writes : goal.returns-in_err-write_indent-clause-writes
returns-in_err-write_indent-clause-writes g c =
    let p = err_from_is_err_and c.from_residual.result c.from_residual.ensures.1 in
    rw (p.1, p.2)
    (Writes-around_open _ (indent c.args.line.now.depth) (string_bytes c.args.line.now.text) (10 ∷ []) _ _ c.in_err-write_indent.ensures.writes)

pub returns-in_err-write_all-clause-writes : goal.returns-in_err-write_all-clause-writes
returns-in_err-write_all-clause-writes g c =
    let p = err_from_is_err_and c.from_residual-in_err-write_all.result c.from_residual-in_err-write_all.ensures.1 in
    rw (p.1, p.2)
    (Writes-around_cut _ (indent c.args.line.now.depth) (string_bytes c.args.line.now.text) (10 ∷ []) _ _ _ _ c.in_ok-write_indent.ensures.writes
    (rw c.as_bytes.ensures.value at c.in_err-write_all.ensures.writes))

pub returns-clause-writes : goal.returns-clause-writes
returns-clause-writes g c =
    Writes-around _ _ (indent c.args.line.now.depth) (string_bytes c.args.line.now.text) (10 ∷ []) _ _ _ _ _ c.in_ok-write_indent.ensures.writes
    (rw c.as_bytes.ensures.value at c.in_ok-write_all.ensures.writes) c.write_all-2.ensures.writes
