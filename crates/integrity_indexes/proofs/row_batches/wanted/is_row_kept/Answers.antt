use Rattle.std.proofs.Common.{◌∙◌, ap, sym}
use Rattle.std.specs.Prelude.{option_map}
use Rattle.std.proofs.lemmas.Result.{err_from_is_err_and}
use Rattle.values.specs.Row.{Row}
use Rattle.expr.specs.View.{term}
use Rattle.records_tables.proofs.lemmas.stored_rows.OneLemmas.{one_record_row}
use Rattle.integrity_indexes.specs.index_rows.Kept.{keeps_row}
use Rattle.integrity_indexes.proofs.lemmas.row_batches.CodeLemmas.{memory_alone, not_read}
use Rattle.integrity_indexes.proofs.row_batches.wanted.is_row_kept.Goals as goal

pub returns-in_err-row-clause-kept : goal.returns-in_err-row-clause-kept
returns-in_err-row-clause-kept c = λ row is.
    let p = err_from_is_err_and c.from_residual.result c.from_residual.ensures.1 in
    let broken = c.in_err-row.ensures.fault in
    rw (p.1, p.2) (memory_alone c.args.table.now c.args.rowid c.args.payload.now row is _ _ broken.0 broken.1 broken.2)

pub returns-clause-kept : goal.returns-clause-kept
returns-clause-kept c = λ row is.
    let same = one_record_row c.args.table.now c.args.rowid c.args.payload.now c.in_ok-row.row row c.in_ok-row.ensures.row is in
    c.in_ok-is_kept.ensures ∙ ap (λ (r : Row). keeps_row (option_map (λ e. term e.now) c.args.condition) r) same

pub returns-in_err-row-clause-unread : goal.returns-in_err-row-clause-unread
returns-in_err-row-clause-unread c =
    let p = err_from_is_err_and c.from_residual.result c.from_residual.ensures.1 in
    let broken = c.in_err-row.ensures.fault in
    rw (p.1, p.2) (λ is. not_read broken.0 c.args.n (sym broken.1 ∙ is))
