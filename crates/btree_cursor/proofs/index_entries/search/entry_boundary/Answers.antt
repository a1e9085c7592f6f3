use Rattle.std.proofs.Common.{◌≡◌, ◌+◌, ◌-◌, ◌/◌, ◌<◌, ℕ, false, refl, sym, ◌∙◌, ap, subst, arith}
use Rattle.std.proofs.lemmas.Result.{err_from_is_err_and}
use Rattle.pager.specs.declared.header.Header.{Header}
use Rattle.pager.specs.PagerState.{image_size}
use Rattle.pager.proofs.CallLemmas.{AsksChainsOnly-trans}
use Rattle.btree.specs.image.Entries.{IsAtPlace}
use Rattle.btree.specs.image.Layout.{cell_count}
use Rattle.btree.specs.image.Pages.{Pages, pages_seen}
use Rattle.btree.specs.image.Search.{HasKeyThat}
use Rattle.btree.specs.image.Shape.{place_at}
use Rattle.btree.specs.Bytes.{IsEntryCell}
use Rattle.btree.proofs.SeenLemmas.{same_pages, still_steady}
use Rattle.btree_cursor.specs.index_entries.Entries.{AreValuesOf, IsViewIn}
use Rattle.btree_cursor.specs.index_entries.Sought.{comes_before}
use Rattle.btree_cursor.proofs.lemmas.index_entries.EntryLemmas.{count_is}
use Rattle.btree_cursor.proofs.index_entries.search.entry_boundary.Goals as goal

pub returns-in_err-entry_comes_before-clause-found : goal.returns-in_err-entry_comes_before-clause-found
returns-in_err-entry_comes_before-clause-found g c = λ steady values of are.
    let p = err_from_is_err_and c.from_residual.result c.from_residual.ensures.1 in
    let stays = c.loop-low.invariant.chains.image in
    let same = sym (same_pages _ _ stays) in
    rw (p.1, p.2)
    (c.in_err-entry_comes_before.ensures.found (still_steady _ _ stays steady) values
    (subst (λ (x : Pages). IsViewIn x c.args.n c.args.view.now) same of)
    (subst (λ (x : Pages). AreValuesOf x values c.args.view.now.level c.args.n) same are))

pub returns-in_err-entry_comes_before-clause-local : goal.returns-in_err-entry_comes_before-clause-local
returns-in_err-entry_comes_before-clause-local g c = λ whole.
    let inv = c.loop-low.invariant in
    let view = c.args.view.now in
    let middle = c.loop-low.low + (c.loop-low.high - c.loop-low.low) / 2 in
    let less : middle < c.loop-low.high = omega (arith, c.loop-low-test.true) in
    let within : middle < cell_count view.at view.page = omega (arith, less, inv.most) in
    c.entry_comes_before.ensures.local (λ cell entry. whole middle cell within
    (subst (λ (h : Header). IsEntryCell view.at (image_size h) view.level view.page middle cell) inv.chains.image.header entry))
    ∙ inv.local whole

pub loop-low-preserved-then-branch : goal.loop-low-preserved-then-branch
loop-low-preserved-then-branch g c =
    let inv = c.loop-low.invariant in
    let view = c.args.view.now in
    let middle = c.loop-low.low + (c.loop-low.high - c.loop-low.low) / 2 in
    let less : middle < c.loop-low.high = omega (arith, c.loop-low-test.true) in
    let within : middle < cell_count view.at view.page = omega (arith, less, inv.most) in
    let told = c.in_ok-entry_comes_before.ensures in
    record {
      order = omega (arith, less);
      most = inv.most;
      chains = AsksChainsOnly-trans _ _ _ inv.chains c.entry_comes_before.ensures.reads.chains;
      failures = told.reads.failures ∙ inv.failures;
      local = λ whole.
          c.entry_comes_before.ensures.local (λ cell entry. whole middle cell within
          (subst (λ (h : Header). IsEntryCell view.at (image_size h) view.level view.page middle cell) inv.chains.image.header entry))
          ∙ inv.local whole;
      last = λ steady values of are some.
          let same = sym (same_pages _ _ inv.chains.image) in
          let found = told.found (still_steady _ _ inv.chains.image steady) values
          (subst (λ (x : Pages). IsViewIn x c.args.n view) same of) (subst (λ (x : Pages). AreValuesOf x values view.level c.args.n) same are) in
          let at : middle ≡ (middle + 1) - 1 = omega arith in
          (place_at c.args.n middle, ap (λ (i : ℕ). place_at c.args.n i) at, sym found ∙ c.if-branch.true);
      next = inv.next;
    }

pub loop-low-preserved : goal.loop-low-preserved
loop-low-preserved g c =
    let inv = c.loop-low.invariant in
    let view = c.args.view.now in
    let middle = c.loop-low.low + (c.loop-low.high - c.loop-low.low) / 2 in
    let less : middle < c.loop-low.high = omega (arith, c.loop-low-test.true) in
    let within : middle < cell_count view.at view.page = omega (arith, less, inv.most) in
    let told = c.in_ok-entry_comes_before.ensures in
    record {
      order = omega arith;
      most = omega (arith, within);
      chains = AsksChainsOnly-trans _ _ _ inv.chains c.entry_comes_before.ensures.reads.chains;
      failures = told.reads.failures ∙ inv.failures;
      local = λ whole.
          c.entry_comes_before.ensures.local (λ cell entry. whole middle cell within
          (subst (λ (h : Header). IsEntryCell view.at (image_size h) view.level view.page middle cell) inv.chains.image.header entry))
          ∙ inv.local whole;
      last = inv.last;
      next = λ steady values of are some.
          let same = sym (same_pages _ _ inv.chains.image) in
          let found = told.found (still_steady _ _ inv.chains.image steady) values
          (subst (λ (x : Pages). IsViewIn x c.args.n view) same of) (subst (λ (x : Pages). AreValuesOf x values view.level c.args.n) same are) in
          (place_at c.args.n middle, refl, sym found ∙ c.if-branch.false);
    }

pub returns-clause-found : goal.returns-clause-found
returns-clause-found g c = λ steady values of are.
    let inv = c.loop-low.invariant in
    let count = count_is (pages_seen c.args.pager.now.state) c.args.n c.args.view.now of in
    let met : c.loop-low.high ≡ c.loop-low.low = omega (arith, inv.order, c.loop-low-test.false) in
    record {
      within = omega (arith, inv.order, inv.most, count);
      last = inv.last steady values of are;
      next = λ less.
          let inside : c.loop-low.high < cell_count c.args.view.now.at c.args.view.now.page = omega (arith, less, met, count) in
          subst (λ (i : ℕ). HasKeyThat (IsAtPlace c.args.view.now.level c.args.n) (λ place. comes_before c.args.key.now (values place)) false i) met
          (inv.next steady values of are inside);
    }
