use Rattle.std.proofs.Common.{inr, ◌≡◌, ◌∙◌, ◌∷◌, [], List, ℕ, sym, subst}
use Rattle.std.proofs.lemmas.Result.{err_from_is_err_and}
use Rattle.records_tables.specs.Tables.{IsAnyRecord}
use Rattle.operators_runs.proofs.StreamLemmas.{nothing_given, row_written}
use Rattle.operators_runs.proofs.columns.write_cell.Goals as goal

pub returns-in_err-bytes-clause-rows : goal.returns-in_err-bytes-clause-rows
returns-in_err-bytes-clause-rows g c = λ steady row is.
    let p = err_from_is_err_and c.from_residual.result c.from_residual.ensures.1 in
    rw (p.1, p.2) (nothing_given _ c.args.columns.now (row ∷ []) _ (c.in_err-bytes.ensures.bytes steady is.bytes is.whole))

pub returns-in_err-values-clause-rows : goal.returns-in_err-values-clause-rows
returns-in_err-values-clause-rows g c = λ steady row is.
    let p = err_from_is_err_and c.from_residual-in_err-values.result c.from_residual-in_err-values.ensures.1 in
    let read : c.as_slice.result.now ≡ is.bytes = c.as_slice.ensures.value ∙ c.in_ok-bytes.ensures.bytes steady is.bytes is.whole in
    rw (p.1, p.2)
    (nothing_given _ c.args.columns.now (row ∷ []) _
    (inr (c.in_err-values.ensures.shown row (subst (λ (b : List ℕ). IsAnyRecord c.args.table.now c.args.cell.now.rowid b row) (sym read) is.is))))

pub returns-clause-rows : goal.returns-clause-rows
returns-clause-rows g c = λ steady row is.
    let read : c.as_slice.result.now ≡ is.bytes = c.as_slice.ensures.value ∙ c.in_ok-bytes.ensures.bytes steady is.bytes is.whole in
    let same =
    c.in_ok-values.ensures.shown row (subst (λ (b : List ℕ). IsAnyRecord c.args.table.now c.args.cell.now.rowid b row) (sym read) is.is) in
    row_written c.args.columns.now row c.row_text.result (g.W.Sink.facts c.args.out.now) (g.W.Sink.facts c.row_text.new.out)
    (rw (← same) (rw (← c.as_slice-2.ensures) c.row_text.ensures.writes))
    c.row_text.ensures.only
