use Rattle.btree.specs.image.Pages.{pages_seen}
use Rattle.std.proofs.Common.{List, sym, subst, inl, inr, ⊎_elim}
use Rattle.std.specs.Cow.{cow_slice_items}
use Rattle.std.proofs.lemmas.Result.{err_from_is_err_and}
use Rattle.values.specs.Datum.{Datum}
use Rattle.btree.specs.Views.{cell_data}
use Rattle.records_tables.specs.stored_rows.Stored.{IsRowOf}
use Rattle.records_tables.proofs.lemmas.stored_rows.CellLemmas.{record_breaks, row_is}
use Rattle.integrity_trees.proofs.table_walk.rows.row_in.Goals as goal

pub returns-in_err-view-clause-fault : goal.returns-in_err-view-clause-fault
returns-in_err-view-clause-fault g c = λ steady.
    let p = err_from_is_err_and c.from_residual-in_err-view.result c.from_residual-in_err-view.ensures.1 in
    let broken = c.in_err-view.ensures.fault in
    rw (p.1, p.2)
    (⊎_elim (λ memory. inl (inr memory)) inr (record_breaks (pages_seen c.args.pager.now.state) c.args.table.now c.args.n (cell_data c.args.cell.now) (cow_slice_items c.in_ok-bytes.bytes) c.as_slice.result.now
    (c.in_ok-bytes.ensures.bytes steady) c.as_slice.ensures.value _ broken.0 broken.1 broken.2))

pub returns-clause-row : goal.returns-clause-row
returns-clause-row g c = λ steady.
    let is = row_is (pages_seen c.args.pager.now.state) c.args.table.now c.args.n (cell_data c.args.cell.now) (cow_slice_items c.in_ok-bytes.bytes) c.as_slice.result.now
    c.in_ok-view.view (c.in_ok-bytes.ensures.bytes steady) c.as_slice.ensures.value c.in_ok-view.ensures.row in
    subst (λ (row : List Datum). IsRowOf (pages_seen c.args.pager.now.state) c.args.table.now (cell_data c.args.cell.now) row) (sym c.in_ok-row.ensures) is
