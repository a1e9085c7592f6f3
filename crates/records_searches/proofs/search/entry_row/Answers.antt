use Rattle.std.proofs.Common.{◌≡◌, ◌∙◌, ap, false, rules, subst, sym, true}
use Rattle.std.proofs.lemmas.Result.{err_from_is_err_and}
use Rattle.pager.specs.PagerState.{PagerState}
use Rattle.btree.specs.image.Pages.{Pages}
use Rattle.btree.proofs.SeenLemmas.{same_pages, still_steady}
use Rattle.records.specs.Record.{IsRecord}
use Rattle.btree_cursor.specs.cursor.Search.{IsUnchainedIndex}
use Rattle.btree_cursor.specs.key_ranges.Ranges.{Range}
use Rattle.records_searches.specs.Meets.{meets_range}
use Rattle.records_searches.specs.Coming.{HoldsRowOf}
use Rattle.records_searches.specs.Entries.{LeadsTo}
use Rattle.records_searches.proofs.search.entry_row.Goals as goal

pub returns-in_err-bytes-clause-row : goal.returns-in_err-bytes-clause-row
returns-in_err-bytes-clause-row g c = λ steady values row has leads.
    let p = err_from_is_err_and c.from_residual.result c.from_residual.ensures.1 in
    rw (p.1, p.2) (c.in_err-bytes.ensures.bytes steady values has)

pub returns-in_default-clause-row : goal.returns-in_default-clause-row
returns-in_default-clause-row g c = λ steady values row has leads.
    let gives = rw c.in_default.is at (c.in_ok-bytes.ensures.bytes steady values has) in
    subst (λ (r : Range). meets_range r values ≡ false) c.key_range.ensures gives

pub returns-in_err-found-clause-row : goal.returns-in_err-found-clause-row
returns-in_err-found-clause-row g c = λ steady values row has leads.
    let p = err_from_is_err_and c.from_residual-in_err-found.result c.from_residual-in_err-found.ensures.1 in
    let stays = c.bytes_in_range.ensures.reads.chains.image in
    let gives = rw c.in-Some.is at (c.in_ok-bytes.ensures.bytes steady values has) in
    let is : IsRecord c.as_slice.result.now values = search (rules, gives.1) in
    rw (p.1, p.2)
    (c.in_err-found.ensures.row (still_steady _ _ stays steady) values row is
    (subst (λ (q : Pages). LeadsTo q c.args.table.now c.args.index.now.finder values row) (sym (same_pages _ _ stays)) leads))

pub returns-clause-row : goal.returns-clause-row
returns-clause-row g c = λ steady values row has leads.
    let stays = c.bytes_in_range.ensures.reads.chains.image in
    let gives = rw c.in-Some.is at (c.in_ok-bytes.ensures.bytes steady values has) in
    let is : IsRecord c.as_slice.result.now values = search (rules, gives.1) in (
      subst (λ (r : Range). meets_range r values ≡ true) c.key_range.ensures gives.0,
      subst (λ (q : Pages). HoldsRowOf q c.args.table.now c.in_ok-found.found row) (same_pages _ _ stays)
          (c.in_ok-found.ensures.row (still_steady _ _ stays steady) values row is
          (subst (λ (q : Pages). LeadsTo q c.args.table.now c.args.index.now.finder values row) (sym (same_pages _ _ stays)) leads)),
    )

pub returns-in_err-found-clause-unchained : goal.returns-in_err-found-clause-unchained
returns-in_err-found-clause-unchained g c = λ none steady local.
    let stays = c.bytes_in_range.ensures.reads.chains.image in
    c.in_err-found.ensures.unchained (still_steady _ _ stays steady)
    (λ kind. subst (λ (q : Pages). IsUnchainedIndex q c.args.table.now.root) (sym (same_pages _ _ stays)) (local kind))
    ∙ ap (λ (p : PagerState). p.chained) (c.bytes_in_range.ensures.local none)

pub returns-clause-unchained : goal.returns-clause-unchained
returns-clause-unchained g c = λ none steady local.
    let stays = c.bytes_in_range.ensures.reads.chains.image in
    c.in_ok-found.ensures.unchained (still_steady _ _ stays steady)
    (λ kind. subst (λ (q : Pages). IsUnchainedIndex q c.args.table.now.root) (sym (same_pages _ _ stays)) (local kind))
    ∙ ap (λ (p : PagerState). p.chained) (c.bytes_in_range.ensures.local none)
