use Rattle.std.proofs.Common.{◌≡◌, false, true, ap, append-nil, rules, subst, sym, ◌∙◌}
use Rattle.std.proofs.lemmas.Result.{err_from_is_err_and}
use Rattle.std.specs.Ordering.{eq_by_cmp, is_gt}
use Rattle.values.specs.Order.{row_cmp}
use Rattle.values.specs.OrderLaws.{row_eq-IsEquivalence, row_eq-same}
use Rattle.values.specs.Row.{Row}
use Rattle.btree.specs.declared.image.kind.TreeKind.TheVariants.{Index}
use Rattle.btree.specs.image.Pages.{Pages, pages_seen}
use Rattle.btree.specs.image.Tree.{Place}
use Rattle.btree.proofs.SeenLemmas.{same_pages, still_steady}
use Rattle.btree_cursor.specs.key_ranges.Ranges.{key_cmp}
use Rattle.btree_cursor.specs.index_entries.Entries.{HasRecord}
use Rattle.pager.specs.PagerState.{PagerState}
use Rattle.integrity_trees.proofs.lemmas.entry_rows.ListedLemmas.{begins, ended}
use Rattle.integrity_trees.proofs.lemmas.entry_rows.MetLemmas.{entry_cause, page_here, row_cause, standing_sought, whole_here}
use Rattle.btree.specs.Views.{cell_data}
use Rattle.integrity_trees.proofs.lemmas.entry_rows.LookupLemmas.{decided, first_has, first_is, first_is_other, none_left}
use Rattle.integrity_trees.proofs.entry_rows.lookup.has_entry.Goals as goal

pub returns-in_err-cursor-clause-found : goal.returns-in_err-cursor-clause-found
returns-in_err-cursor-clause-found g c = λ steady values levels index.
    let p = err_from_is_err_and c.from_residual.result c.from_residual.ensures.1 in
    rw (p.1, p.2) (c.in_err-cursor.ensures.outcome.sound steady levels values index)

pub returns-in_err-cell-clause-found : goal.returns-in_err-cell-clause-found
returns-in_err-cell-clause-found g c = λ steady values levels index.
    let s = (c.in_ok-cursor.ensures.outcome.seeks steady levels values index).0 in
    absurd (c.in_err-cell.ensures.entry _ Index levels s.rest _ _ s.leads)

pub returns-in_default-clause-found : goal.returns-in_default-clause-found
returns-in_default-clause-found g c = λ steady values levels index.
    let s = (c.in_ok-cursor.ensures.outcome.seeks steady levels values index).0 in
    let none = ended _ s.rest ((rw c.in_default.is at c.in_ok-cell.ensures.entry) _ Index levels s.rest _ _ s.leads) in
    let key_is = λ (place : Place). ap (λ (k : Row). is_gt (key_cmp c.args.descends.now k (values place))) (append-nil _ ∙ c.as_slice.ensures) in (
      λ t. absurd (let f : false ≡ true = t in cc),
      λ h. absurd (none_left (pages_seen c.args.pager.now.state) c.args.descends.now values levels c.args.root index c.args.wanted.now _ key_is s.front s.rest s.split none h),
    )

pub returns-in_err-row-clause-found : goal.returns-in_err-row-clause-found
returns-in_err-row-clause-found g c = λ steady values levels index.
    let s = (c.in_ok-cursor.ensures.outcome.seeks steady levels values index).0 in
    let first = begins _ s.rest _ ((rw c.in-Some.is at c.in_ok-cell.ensures.entry) _ Index levels s.rest _ _ s.leads) in
    let stays = c.in_ok-cursor.ensures.reads.image in
    let key_is = λ (place : Place). ap (λ (k : Row). is_gt (key_cmp c.args.descends.now k (values place))) (append-nil _ ∙ c.as_slice.ensures) in
    let p = err_from_is_err_and c.from_residual-in_err-row.result c.from_residual-in_err-row.ensures.1 in
    let has = first_has (pages_seen c.args.pager.now.state) c.args.descends.now values levels c.args.root index c.args.wanted.now _ key_is s.front s.rest s.split
    first.place first.more first.is _ first.entry in
    rw (p.1, p.2)
    (c.in_err-row.ensures.row (still_steady _ _ stays steady) _ (subst (λ (x : Pages). HasRecord x (cell_data c.in-Some.cell) (values first.place)) (sym (same_pages _ _ stays)) has))

pub returns-clause-found : goal.returns-clause-found
returns-clause-found g c = λ steady values levels index.
    let s = (c.in_ok-cursor.ensures.outcome.seeks steady levels values index).0 in
    let first = begins _ s.rest _ ((rw c.in-Some.is at c.in_ok-cell.ensures.entry) _ Index levels s.rest _ _ s.leads) in
    let stays = c.in_ok-cursor.ensures.reads.image in
    let key_is = λ (place : Place). ap (λ (k : Row). is_gt (key_cmp c.args.descends.now k (values place))) (append-nil _ ∙ c.as_slice.ensures) in
    let has = first_has (pages_seen c.args.pager.now.state) c.args.descends.now values levels c.args.root index c.args.wanted.now _ key_is s.front s.rest s.split
    first.place first.more first.is _ first.entry in
    let row : c.in_ok-row.row ≡ values first.place =
    c.in_ok-row.ensures.row (still_steady _ _ stays steady) _ (subst (λ (x : Pages). HasRecord x (cell_data c.in-Some.cell) (values first.place)) (sym (same_pages _ _ stays)) has) in
    let eq : c.eq.result ≡ eq_by_cmp row_cmp c.in_ok-row.row c.args.wanted.now = search rules in (
      λ t. first_is (pages_seen c.args.pager.now.state) c.args.descends.now values levels c.args.root index c.args.wanted.now _ key_is s.front s.rest s.split
          first.place first.more first.is (sym row ∙ row_eq-same c.in_ok-row.row c.args.wanted.now (sym eq ∙ t)),
      λ h. decided c.eq.result (λ other. absurd (first_is_other (pages_seen c.args.pager.now.state) c.args.descends.now values levels c.args.root index
          c.args.wanted.now _ key_is s.front s.rest s.split first.place first.more first.is
          (λ same. let e = ap (λ (r : Row). eq_by_cmp row_cmp c.in_ok-row.row r) (sym same ∙ sym row) in
          let f : false ≡ true = sym other ∙ eq ∙ e ∙ row_eq-IsEquivalence.refl c.in_ok-row.row in cc) h)),
    )

pub returns-in_err-cursor-clause-cause : goal.returns-in_err-cursor-clause-cause
returns-in_err-cursor-clause-cause g c = λ steady.
    let p = err_from_is_err_and c.from_residual.result c.from_residual.ensures.1 in
    rw (p.1, p.2) (c.in_err-cursor.ensures.outcome.cause steady)

pub returns-in_err-cell-clause-cause : goal.returns-in_err-cell-clause-cause
returns-in_err-cell-clause-cause g c = λ steady.
    let stands = standing_sought _ _ _ _ _ c.in_ok-cursor.ensures.outcome c.seek_entry.ensures.unchained in
    let p = err_from_is_err_and c.from_residual-in_err-cell.result c.from_residual-in_err-cell.ensures.1 in
    rw (p.1, p.2) (entry_cause _ _ _ _ stands steady c.in_err-cell.field-0.0 c.in_err-cell.ensures.outcome c.in_err-cell.ensures.cause)

pub returns-in_err-row-clause-cause : goal.returns-in_err-row-clause-cause
returns-in_err-row-clause-cause g c = λ steady.
    let stands = standing_sought _ _ _ _ _ c.in_ok-cursor.ensures.outcome c.seek_entry.ensures.unchained in
    let stays = c.seek_entry.ensures.reads.image in
    let p = err_from_is_err_and c.from_residual-in_err-row.result c.from_residual-in_err-row.ensures.1 in
    let page = page_here _ _ _ _ stands c.page.result c.unwrap_or-page.result c.args.root c.page.ensures c.unwrap_or-page.ensures in
    rw (p.1, p.2)
    (row_cause _ _ _ _ stands steady (cell_data c.in-Some.cell) (rw c.in-Some.is at c.in_ok-cell.ensures.outcome) stays
    c.unwrap_or-page.result page c.in_err-row.field-0.0 (c.in_err-row.ensures.broken (still_steady _ _ stays steady)))

pub returns-in_err-row-clause-unchained : goal.returns-in_err-row-clause-unchained
returns-in_err-row-clause-unchained g c = λ steady whole.
    let stands = standing_sought _ _ _ _ _ c.in_ok-cursor.ensures.outcome c.seek_entry.ensures.unchained in
    let gives = rw c.in-Some.is at c.in_ok-cell.ensures.outcome in
    ap (λ (x : PagerState). x.chained) (c.entry_row.ensures.local (whole_here _ _ _ _ stands steady _ gives whole)) ∙ stands.chained steady whole

pub returns-clause-unchained : goal.returns-clause-unchained
returns-clause-unchained g c = λ steady whole.
    let stands = standing_sought _ _ _ _ _ c.in_ok-cursor.ensures.outcome c.seek_entry.ensures.unchained in
    let gives = rw c.in-Some.is at c.in_ok-cell.ensures.outcome in
    ap (λ (x : PagerState). x.chained) (c.entry_row.ensures.local (whole_here _ _ _ _ stands steady _ gives whole)) ∙ stands.chained steady whole
