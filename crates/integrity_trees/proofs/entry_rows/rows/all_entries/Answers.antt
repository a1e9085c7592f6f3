use Rattle.std.proofs.Common.{◌∙◌, ap, sym}
use Rattle.btree.specs.Views.{cell_data}
use Rattle.std.proofs.lemmas.Result.{err_from_is_err_and}
use Rattle.pager.proofs.CallLemmas.{SameImage-trans}
use Rattle.btree.specs.declared.image.kind.TreeKind.TheVariants.{Index}
use Rattle.btree.proofs.SeenLemmas.{still_steady}
use Rattle.integrity_trees.proofs.lemmas.entry_rows.ListedLemmas.{done, few_asked, has_record, never, one_more, still_at}
use Rattle.pager.specs.PagerState.{PagerState}
use Rattle.integrity_trees.proofs.lemmas.entry_rows.MetLemmas.{entry_cause, entry_only, row_cause, standing_on, step_cause, step_only, whole_here}
use Rattle.integrity_trees.proofs.entry_rows.rows.all_entries.Goals as goal

pub returns-in_err-cell-clause-rows : goal.returns-in_err-cell-clause-rows
returns-in_err-cell-clause-rows g c = λ steady descends values levels index.
    absurd (never _ _ _ _ _ c.loop-rows.invariant.listing steady descends values levels index (λ pages. c.in_err-cell.ensures.entry pages Index))

pub returns-in_err-row-clause-rows : goal.returns-in_err-row-clause-rows
returns-in_err-row-clause-rows g c = λ steady descends values levels index.
    let l = c.loop-rows.invariant.listing in
    let p = err_from_is_err_and c.from_residual-in_err-row.result c.from_residual-in_err-row.ensures.1 in
    rw (p.1, p.2)
    (c.in_err-row.ensures.row (still_steady _ _ l.stays steady) _
    (has_record _ _ _ _ _ l steady descends values levels index _ (λ pages. (rw c.in-Some.is at c.in_ok-cell.ensures.entry) pages Index)))

pub loop-rows-preserved : goal.loop-rows-preserved
loop-rows-preserved g c =
    let l = c.loop-rows.invariant.listing in
    let chains = c.in_ok-row.ensures.reads.chains in
    let stands = c.loop-rows.invariant.standing in
    let gives = rw c.in-Some.is at c.in_ok-cell.ensures.outcome in
    record {
      listing = record {
        stays = SameImage-trans _ _ _ (SameImage-trans _ _ _ l.stays chains.image) c.in_ok-next.ensures.reads.image;
        failures = c.in_ok-next.ensures.reads.failures ∙ c.in_ok-row.ensures.reads.failures ∙ l.failures;
        lists = λ steady descends values levels index.
            let row = c.in_ok-row.ensures.row (still_steady _ _ l.stays steady) _
            (has_record _ _ _ _ _ l steady descends values levels index _ (λ pages. (rw c.in-Some.is at c.in_ok-cell.ensures.entry) pages Index)) in
            rw c.in_ok-push.ensures.items
            (one_more _ _ _ _ _ l steady descends values levels index _ (λ pages. (rw c.in-Some.is at c.in_ok-cell.ensures.entry) pages Index)
            _ chains _ _ _ row c.in_ok-next.ensures.outcome);
      };
      standing = standing_on _ _ _ _ stands _ _ _ (SameImage-trans _ _ _ l.stays chains.image) c.in_ok-next.ensures.outcome
          (λ steady whole. ap (λ (x : PagerState). x.chained) (c.in_ok-row.ensures.local (whole_here _ _ _ _ stands steady _ gives whole)))
          c.in_ok-next.ensures.reads.unchained;
    }

pub returns-in_err-next-clause-rows : goal.returns-in_err-next-clause-rows
returns-in_err-next-clause-rows g c = λ steady descends values levels index.
    let l = c.loop-rows.invariant.listing in
    let chains = c.in_ok-row.ensures.reads.chains in
    let p = err_from_is_err_and c.from_residual-in_err-next.result c.from_residual-in_err-next.ensures.1 in
    rw (p.1, p.2)
    (c.in_err-next.ensures.outcome.sound (still_steady _ _ (SameImage-trans _ _ _ l.stays chains.image) steady) Index levels _ _
    (still_at _ _ _ _ _ l steady descends values levels index _ (λ pages. (rw c.in-Some.is at c.in_ok-cell.ensures.entry) pages Index) _ chains))

pub returns-clause-rows : goal.returns-clause-rows
returns-clause-rows g c = λ steady descends values levels index.
    done _ _ _ _ _ c.loop-rows.invariant.listing steady descends values levels index
    (λ pages. (rw c.in_default.is at c.in_ok-cell.ensures.entry) pages Index)

pub returns-clause-asks : goal.returns-clause-asks
returns-clause-asks g c = λ steady descends values levels index.
    few_asked _ _ _ _ _ c.loop-rows.invariant.listing steady descends values levels index

pub returns-in_err-cell-clause-cause : goal.returns-in_err-cell-clause-cause
returns-in_err-cell-clause-cause g c = λ steady.
    let p = err_from_is_err_and c.from_residual-in_err-cell.result c.from_residual-in_err-cell.ensures.1 in
    rw (p.1, p.2)
    (entry_cause _ _ _ _ c.loop-rows.invariant.standing steady c.in_err-cell.field-0.0 c.in_err-cell.ensures.outcome c.in_err-cell.ensures.cause)

pub returns-in_err-row-clause-cause : goal.returns-in_err-row-clause-cause
returns-in_err-row-clause-cause g c = λ steady.
    let p = err_from_is_err_and c.from_residual-in_err-row.result c.from_residual-in_err-row.ensures.1 in
    let stays = c.loop-rows.invariant.listing.stays in
    let page = sym c.in_ok-page.ensures.ok_part ∙ c.page.ensures in
    rw (p.1, p.2)
    (row_cause _ _ _ _ c.loop-rows.invariant.standing steady (cell_data c.in-Some.cell) (rw c.in-Some.is at c.in_ok-cell.ensures.outcome) stays
    c.in_ok-page.page page c.in_err-row.field-0.0 (c.in_err-row.ensures.broken (still_steady _ _ stays steady)))

pub returns-in_err-row-clause-unchained : goal.returns-in_err-row-clause-unchained
returns-in_err-row-clause-unchained g c = λ steady whole.
    let stands = c.loop-rows.invariant.standing in
    let gives = rw c.in-Some.is at c.in_ok-cell.ensures.outcome in
    ap (λ (x : PagerState). x.chained) (c.entry_row.ensures.local (whole_here _ _ _ _ stands steady _ gives whole)) ∙ stands.chained steady whole

pub returns-in_err-push-clause-unchained : goal.returns-in_err-push-clause-unchained
returns-in_err-push-clause-unchained g c = λ steady whole.
    let stands = c.loop-rows.invariant.standing in
    let gives = rw c.in-Some.is at c.in_ok-cell.ensures.outcome in
    ap (λ (x : PagerState). x.chained) (c.entry_row.ensures.local (whole_here _ _ _ _ stands steady _ gives whole)) ∙ stands.chained steady whole

pub returns-in_err-next-clause-cause : goal.returns-in_err-next-clause-cause
returns-in_err-next-clause-cause g c = λ steady.
    let p = err_from_is_err_and c.from_residual-in_err-next.result c.from_residual-in_err-next.ensures.1 in
    let stays = SameImage-trans _ _ _ c.loop-rows.invariant.listing.stays c.in_ok-row.ensures.reads.chains.image in
    rw (p.1, p.2)
    (step_cause _ _ _ _ c.loop-rows.invariant.standing _ stays steady c.in_err-next.field-0.0 c.in_err-next.ensures.outcome.only
    (c.in_err-next.ensures.outcome.cause (still_steady _ _ stays steady)))

pub returns-in_err-next-clause-unchained : goal.returns-in_err-next-clause-unchained
returns-in_err-next-clause-unchained g c = λ steady whole.
    let stands = c.loop-rows.invariant.standing in
    let gives = rw c.in-Some.is at c.in_ok-cell.ensures.outcome in
    c.next.ensures.reads.unchained ∙ ap (λ (x : PagerState). x.chained) (c.in_ok-row.ensures.local (whole_here _ _ _ _ stands steady _ gives whole))
    ∙ stands.chained steady whole

pub returns-in_err-cell-clause-only : goal.returns-in_err-cell-clause-only
returns-in_err-cell-clause-only g c =
    let p = err_from_is_err_and c.from_residual-in_err-cell.result c.from_residual-in_err-cell.ensures.1 in
    rw (p.1, p.2) (entry_only _ _ _ _ c.loop-rows.invariant.standing c.in_err-cell.field-0.0 c.in_err-cell.ensures.outcome)

pub returns-in_err-next-clause-only : goal.returns-in_err-next-clause-only
returns-in_err-next-clause-only g c =
    let p = err_from_is_err_and c.from_residual-in_err-next.result c.from_residual-in_err-next.ensures.1 in
    rw (p.1, p.2) (step_only _ _ _ _ c.loop-rows.invariant.standing c.in_err-next.field-0.0 c.in_err-next.ensures.outcome.only)
