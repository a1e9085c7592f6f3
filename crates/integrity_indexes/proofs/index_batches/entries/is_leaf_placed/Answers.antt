use Rattle.std.proofs.Common.{◌≡◌, ◌<◌, ◌∙◌, arith, below_more, rules, subst, sym}
use Rattle.std.proofs.lemmas.Result.{err_from_is_err_and}
use Rattle.pager.proofs.CallLemmas.{AsksChainsOnly-trans}
use Rattle.btree.specs.image.Layout.{cell_count}
use Rattle.btree.specs.image.Pages.{Pages, pages_seen}
use Rattle.btree.specs.image.Tree.{count_at}
use Rattle.btree.proofs.SeenLemmas.{same_pages, still_steady}
use Rattle.btree_cursor.specs.index_entries.Entries.{AreValuesOf, IsViewIn}
use Rattle.btree_cursor.proofs.lemmas.index_entries.EntryLemmas.{count_is}
use Rattle.integrity_indexes.proofs.lemmas.index_batches.TreeLemmas.{leaf_astray, leaf_placed}
use Rattle.integrity_indexes.proofs.index_batches.entries.is_leaf_placed.Goals as goal

pub returns-in_err-is_entry_placed-clause-placed : goal.returns-in_err-is_entry_placed-clause-placed
returns-in_err-is_entry_placed-clause-placed g c = λ steady values of are.
    let inv = c.loop-i.invariant in
    let same = sym (same_pages _ _ inv.chains.image) in
    let p = err_from_is_err_and c.from_residual.result c.from_residual.ensures.1 in
    rw (p.1, p.2)
    (c.in_err-is_entry_placed.ensures.placed (still_steady _ _ inv.chains.image steady) values
    (subst (λ (x : Pages). IsViewIn x c.args.n c.args.view.now) same of)
    (subst (λ (x : Pages). AreValuesOf x values c.args.view.now.level c.args.n) same are))

pub returns-then-not-branch-clause-placed : goal.returns-then-not-branch-clause-placed
returns-then-not-branch-clause-placed g c = λ steady values of are.
    let inv = c.loop-i.invariant in
    let seen = pages_seen c.args.pager.now.state in
    let same = sym (same_pages _ _ inv.chains.image) in
    let told = c.in_ok-is_entry_placed.ensures.placed (still_steady _ _ inv.chains.image steady) values
    (subst (λ (x : Pages). IsViewIn x c.args.n c.args.view.now) same of)
    (subst (λ (x : Pages). AreValuesOf x values c.args.view.now.level c.args.n) same are) in
    let inside : c.loop-i.i < cell_count c.args.view.now.at c.args.view.now.page = search rules in
    let within : c.loop-i.i < count_at seen c.args.n = omega (arith, inside, count_is seen c.args.n c.args.view.now of) in
    let s = c.args.sought.now in
    leaf_astray s.batch.now s.above s.most s.columns values seen c.args.n c.loop-i.i within (rw c.if-not-branch.true at told)

pub loop-i-preserved : goal.loop-i-preserved
loop-i-preserved g c =
    let inv = c.loop-i.invariant in
    record {
      chains = AsksChainsOnly-trans _ _ _ inv.chains c.is_entry_placed.ensures.reads.chains;
      failures = c.in_ok-is_entry_placed.ensures.reads.failures ∙ inv.failures;
      placed = λ steady values of are.
          let same = sym (same_pages _ _ inv.chains.image) in
          let told = c.in_ok-is_entry_placed.ensures.placed (still_steady _ _ inv.chains.image steady) values
          (subst (λ (x : Pages). IsViewIn x c.args.n c.args.view.now) same of)
          (subst (λ (x : Pages). AreValuesOf x values c.args.view.now.level c.args.n) same are) in
          below_more _ _ (inv.placed steady values of are) (rw c.if-not-branch.false at told);
    }

pub returns-clause-placed : goal.returns-clause-placed
returns-clause-placed g c = λ steady values of are.
    let inv = c.loop-i.invariant in
    let seen = pages_seen c.args.pager.now.state in
    let all : c.loop-i.i ≡ cell_count c.args.view.now.at c.args.view.now.page = search rules in
    let s = c.args.sought.now in
    leaf_placed s.batch.now s.above s.most s.columns values seen c.args.n c.loop-i.i (all ∙ count_is seen c.args.n c.args.view.now of) (inv.placed steady values of are)
