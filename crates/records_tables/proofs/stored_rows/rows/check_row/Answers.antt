use Rattle.btree.specs.image.Pages.{pages_seen}
use Rattle.std.proofs.Common.{rules, inl, inr, ⊎_elim}
use Rattle.std.specs.Cow.{cow_slice_items}
use Rattle.std.proofs.lemmas.Result.{err_from_is_err_and}
use Rattle.btree.specs.Views.{cell_data}
use Rattle.records_tables.proofs.lemmas.stored_rows.CellLemmas.{record_breaks, row_is}
use Rattle.records_tables.proofs.stored_rows.rows.check_row.Goals as goal

pub returns-then-is_row-clause-row : goal.returns-then-is_row-clause-row
returns-then-is_row-clause-row g c = λ steady.
    let told = c.is_row.ensures c.if-is_row.true in
    let is = row_is (pages_seen c.args.pager.now.state) c.args.table.now c.args.n (cell_data c.args.cell.now) (cow_slice_items c.in_ok-bytes.bytes) c.as_slice.result.now
    told.0 (c.in_ok-bytes.ensures.bytes steady) (search rules) told.1 in
    (told.0, is, told.2)

pub returns-in_err-row-clause-fault : goal.returns-in_err-row-clause-fault
returns-in_err-row-clause-fault g c = λ steady.
    let p = err_from_is_err_and c.from_residual-in_err-row.result c.from_residual-in_err-row.ensures.1 in
    let broken = c.in_err-row.ensures.fault in
    rw (p.1, p.2)
    (⊎_elim (λ memory. inl (inr memory)) (λ breaks. inr (inl breaks)) (record_breaks (pages_seen c.args.pager.now.state) c.args.table.now c.args.n (cell_data c.args.cell.now) (cow_slice_items c.in_ok-bytes.bytes) c.as_slice-2.result.now
    (c.in_ok-bytes.ensures.bytes steady) (search rules) _ broken.0 broken.1 broken.2))

pub returns-then-not-fits-clause-fault : goal.returns-then-not-fits-clause-fault
returns-then-not-fits-clause-fault g c = λ steady.
    let is = row_is (pages_seen c.args.pager.now.state) c.args.table.now c.args.n (cell_data c.args.cell.now) (cow_slice_items c.in_ok-bytes.bytes) c.as_slice-2.result.now
    c.in_ok-row.row (c.in_ok-bytes.ensures.bytes steady) (search rules) c.in_ok-row.ensures.row in
    inr (inl (search rules, (c.in_ok-row.row, is, search rules)))

pub returns-clause-row : goal.returns-clause-row
returns-clause-row g c = λ steady.
    let is = row_is (pages_seen c.args.pager.now.state) c.args.table.now c.args.n (cell_data c.args.cell.now) (cow_slice_items c.in_ok-bytes.bytes) c.as_slice-2.result.now
    c.in_ok-row.row (c.in_ok-bytes.ensures.bytes steady) (search rules) c.in_ok-row.ensures.row in
    (c.in_ok-row.row, is, search rules)
