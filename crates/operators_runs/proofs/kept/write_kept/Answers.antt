use Rattle.std.proofs.Common.{◌∙◌, List, Vec, Global, rules, subst, take_all}
use Rattle.std.proofs.lemmas.Result.{err_from_is_err_and}
use Rattle.std.specs.Io.KnownBytes.{Appends}
use Rattle.values.specs.Row.{rows_data}
use Rattle.values.specs.declared.value.Value.{Value}
use Rattle.operators_runs.proofs.StreamLemmas.{shown_text}
use Rattle.operators_runs.proofs.KeptLemmas.{kept_cut, kept_done, kept_more}
use Rattle.operators_runs.proofs.kept.write_kept.Goals as goal

pub returns-in_err-write_row-clause-rows : goal.returns-in_err-write_row-clause-rows
returns-in_err-write_row-clause-rows g c =
    let p = err_from_is_err_and c.from_residual.result c.from_residual.ensures.1 in
    rw (p.1, p.2)
    (kept_cut c.args.columns.now c.args.rows.now c.loop-row.row-index c.row-item.result c.loop-row-test.true c.row-item.is _ _ _ _ c.loop-row.invariant.written
    (rw c.as_slice.ensures.value at c.in_err-write_row.ensures.rows))

pub loop-row-preserved : goal.loop-row-preserved
loop-row-preserved g c = record {
  written =
      kept_more c.args.columns.now c.args.rows.now c.loop-row.row-index c.row-item.result c.loop-row-test.true c.row-item.is
      (g.W.Sink.facts c.args.out.now) (g.W.Sink.facts c.loop-row.out) (g.W.Sink.facts c.write_row.new.out) c.loop-row.invariant.written
      (rw c.as_slice.ensures.value at c.in_ok-write_row.ensures.rows);
  failures = c.in_ok-write_row.ensures.writes ∙ c.loop-row.invariant.failures;
}

pub returns-clause-rows : goal.returns-clause-rows
returns-clause-rows g c =
    kept_done c.args.columns.now c.args.rows.now (g.W.Sink.facts c.args.out.now) (g.W.Sink.facts c.loop-row.out) _ (search rules) (search rules)
    (subst (λ (rows : List (Vec Value Global)). Appends (g.W.Sink.facts c.args.out.now).written (g.W.Sink.facts c.loop-row.out).written (shown_text c.args.columns.now (rows_data rows)))
    (take_all c.loop-row.row-index c.args.rows.now c.loop-row-test.false) c.loop-row.invariant.written)
