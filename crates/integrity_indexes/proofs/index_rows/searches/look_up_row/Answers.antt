use Rattle.std.proofs.Common.{◌≡◌, ◌∙◌, ap, false, true, subst, sym, ⊎_elim}
use Rattle.std.specs.Cow.{cow_slice_items}
use Rattle.std.proofs.lemmas.Result.{err_from_is_err_and}
use Rattle.values.specs.Row.{Row}
use Rattle.btree.specs.image.Pages.{Pages, pages_seen}
use Rattle.btree.specs.Views.{cell_data}
use Rattle.btree.proofs.SeenLemmas.{same_pages, still_steady}
use Rattle.btree_cursor.specs.cursor.Search.{IsSearchableIndex}
use Rattle.integrity_indexes.specs.index_rows.Entries.{indexed_by}
use Rattle.integrity_indexes.specs.index_rows.Kept.{condition_of, keeps_row}
use Rattle.integrity_indexes.proofs.lemmas.index_rows.LookLemmas.{memory_alone, row_read, told_here}
use Rattle.integrity_indexes.proofs.index_rows.searches.look_up_row.Goals as goal

pub returns-in_err-bytes-clause-found : goal.returns-in_err-bytes-clause-found
returns-in_err-bytes-clause-found g c = λ steady row values levels is index.
    let p = err_from_is_err_and c.from_residual.result c.from_residual.ensures.1 in
    rw (p.1, p.2)
    (⊎_elim (λ read. read) (λ broken. absurd (broken.1 is.bytes is.whole)) (c.in_err-bytes.ensures.fault steady))

pub returns-in_err-row-clause-found : goal.returns-in_err-row-clause-found
returns-in_err-row-clause-found g c = λ steady row values levels is index.
    let p = err_from_is_err_and c.from_residual-in_err-row.result c.from_residual-in_err-row.ensures.1 in
    let broken = c.in_err-row.ensures.fault in
    rw (p.1, p.2)
    (memory_alone (pages_seen c.args.pager.now.state) c.args.table.now (cell_data c.args.cell.now) row is (cow_slice_items c.in_ok-bytes.bytes)
    c.as_slice.result.now (c.in_ok-bytes.ensures.bytes steady) c.as_slice.ensures.value _ _ broken.0 broken.1 broken.2)

pub returns-then-not-branch-clause-found : goal.returns-then-not-branch-clause-found
returns-then-not-branch-clause-found g c = λ steady row values levels is index.
    let same = row_read (pages_seen c.args.pager.now.state) c.args.table.now (cell_data c.args.cell.now) row is (cow_slice_items c.in_ok-bytes.bytes)
    c.as_slice.result.now (c.in_ok-bytes.ensures.bytes steady) c.as_slice.ensures.value c.in_ok-row.row c.in_ok-row.ensures.row in
    ap (λ (r : Row). keeps_row (condition_of c.args.index.now) r) (sym same) ∙ sym c.in_ok-is_kept.ensures ∙ c.if-not-branch.true

pub returns-in_err-has_wanted-clause-found : goal.returns-in_err-has_wanted-clause-found
returns-in_err-has_wanted-clause-found g c = λ steady row values levels is index.
    let stays = c.in_ok-bytes.ensures.reads.chains.image in
    let there = subst (λ (p : Pages). IsSearchableIndex p c.args.index.now.descends.now values levels c.args.index.now.root) (sym (same_pages _ _ stays)) index in
    let p = err_from_is_err_and c.from_residual-in_err-has_wanted.result c.from_residual-in_err-has_wanted.ensures.1 in
    rw (p.1, p.2) (c.in_err-has_wanted.ensures.found (still_steady _ _ stays steady) values levels there)

pub returns-then-branch-clause-found : goal.returns-then-branch-clause-found
returns-then-branch-clause-found g c = λ steady row values levels is index.
    let stays = c.in_ok-bytes.ensures.reads.chains.image in
    let same = row_read (pages_seen c.args.pager.now.state) c.args.table.now (cell_data c.args.cell.now) row is (cow_slice_items c.in_ok-bytes.bytes)
    c.as_slice.result.now (c.in_ok-bytes.ensures.bytes steady) c.as_slice.ensures.value c.in_ok-row.row c.in_ok-row.ensures.row in
    let there = subst (λ (p : Pages). IsSearchableIndex p c.args.index.now.descends.now values levels c.args.index.now.root) (sym (same_pages _ _ stays)) index in
    let told = told_here (pages_seen c.args.pager.now.state) (pages_seen c.payload_of.new.pager.state) values levels c.args.index.now.root (indexed_by c.args.index.now) c.args.cell.now.rowid
    c.in_ok-row.row row c.in_ok-has_wanted.field-0 (same_pages _ _ stays) same
    (c.in_ok-has_wanted.ensures.found (still_steady _ _ stays steady) values levels there) in (
      ap (λ (r : Row). keeps_row (condition_of c.args.index.now) r) (sym same) ∙ sym c.in_ok-is_kept.ensures ∙ c.if-not-branch.false,
      told.0 c.if-branch.true,
    )

pub returns-clause-found : goal.returns-clause-found
returns-clause-found g c = λ steady row values levels is index.
    let stays = c.in_ok-bytes.ensures.reads.chains.image in
    let same = row_read (pages_seen c.args.pager.now.state) c.args.table.now (cell_data c.args.cell.now) row is (cow_slice_items c.in_ok-bytes.bytes)
    c.as_slice.result.now (c.in_ok-bytes.ensures.bytes steady) c.as_slice.ensures.value c.in_ok-row.row c.in_ok-row.ensures.row in
    let there = subst (λ (p : Pages). IsSearchableIndex p c.args.index.now.descends.now values levels c.args.index.now.root) (sym (same_pages _ _ stays)) index in
    let told = told_here (pages_seen c.args.pager.now.state) (pages_seen c.payload_of.new.pager.state) values levels c.args.index.now.root (indexed_by c.args.index.now) c.args.cell.now.rowid
    c.in_ok-row.row row c.in_ok-has_wanted.field-0 (same_pages _ _ stays) same
    (c.in_ok-has_wanted.ensures.found (still_steady _ _ stays steady) values levels there) in (
      ap (λ (r : Row). keeps_row (condition_of c.args.index.now) r) (sym same) ∙ sym c.in_ok-is_kept.ensures ∙ c.if-not-branch.false,
      λ h. let e : false ≡ true = sym c.if-branch.false ∙ told.1 h in cc,
    )
