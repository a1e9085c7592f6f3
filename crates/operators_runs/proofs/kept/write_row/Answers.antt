use Rattle.std.proofs.Common.{◌∷◌, [], inr, map, refl}
use Rattle.std.proofs.lemmas.Result.{err_from_is_err_and}
use Rattle.values.specs.Datum.{datum_of}
use Rattle.operators_runs.proofs.StreamLemmas.{nothing_given, row_written}
use Rattle.operators_runs.proofs.kept.write_row.Goals as goal

pub returns-in_err-show_columns-clause-rows : goal.returns-in_err-show_columns-clause-rows
returns-in_err-show_columns-clause-rows g c =
    let p = err_from_is_err_and c.from_residual.result c.from_residual.ensures.1 in
    rw (p.1, p.2) (nothing_given _ c.args.columns.now (map datum_of c.args.row.now ∷ []) _ (inr refl))

pub returns-clause-rows : goal.returns-clause-rows
returns-clause-rows g c =
    row_written c.args.columns.now (map datum_of c.args.row.now) c.row_text.result (g.W.Sink.facts c.args.out.now) (g.W.Sink.facts c.row_text.new.out)
    (rw (← c.in_ok-show_columns.ensures) (rw (← c.as_slice.ensures.value) c.row_text.ensures.writes)) c.row_text.ensures.only
