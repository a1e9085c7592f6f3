use Rattle.std.proofs.Common.{◌≡◌, ◌<◌, ◌≤◌, ◌∙◌, Bool, IsTrue, List, rules, arith, sym, subst, refl, add-one}
use Rattle.std.proofs.lemmas.Result.{err_from_is_err_and}
use Rattle.pager.proofs.CallLemmas.{AsksChainsOnly-trans}
use Rattle.btree.specs.declared.image.kind.TreeKind.TheVariants.{Index}
use Rattle.btree.specs.declared.image.kind.Level.{Level}
use Rattle.btree.specs.declared.image.kind.Level.TheVariants.{Leaf}
use Rattle.btree.specs.image.Layout.{cell_count}
use Rattle.btree.specs.image.Pages.{Pages, pages_seen}
use Rattle.btree.specs.image.Tree.{IsPageOf, count_at}
use Rattle.btree.proofs.SeenLemmas.{same_pages, still_steady}
use Rattle.btree_cursor.specs.index_entries.Entries.{IsViewIn}
use Rattle.btree_cursor.proofs.lemmas.index_entries.EntryLemmas.{count_is}
use Rattle.integrity_trees.proofs.lemmas.tree_walk.UsedLemmas.{cells_gone, part_none}
use Rattle.integrity_trees.specs.index_walk.Checked.{index_tree}
use Rattle.integrity_trees.specs.index_walk.Walked.{IsEntryStop, IsEntryWalked, IsIndexPage}
use Rattle.integrity_trees.proofs.lemmas.index_walk.EntryLemmas.{last_here, leaf_ends, leaf_more, leaf_stop, no_run, one_run, part_more}
use Rattle.integrity_trees.proofs.index_walk.entries.check_leaf.Goals as goal

pub loop-i-init : goal.loop-i-init
loop-i-init g c = record {
  chains = search rules;
  failures = search rules;
  run = λ steady page. no_run (pages_seen c.args.pager.now.state) c.args.tree.now.widths c.args.tree.now.descends.now c.args.last.now;
  before = λ steady page. refl;
  marks = λ steady page. part_none (pages_seen c.args.pager.now.state) (index_tree c.args.tree.now.root) Leaf c.args.n 0 c.args.used.now;
}

pub returns-in_err-check_entry-clause-fault : goal.returns-in_err-check_entry-clause-fault
returns-in_err-check_entry-clause-fault g c = λ steady page from.
    let inv = c.loop-i.invariant in
    let seen = pages_seen c.args.pager.now.state in
    let same = same_pages _ _ inv.chains.image in
    let inside : c.loop-i.i < cell_count c.args.view.now.at c.args.view.now.page = search rules in
    let within : c.loop-i.i < count_at seen c.args.n = omega (arith, inside, count_is seen c.args.n c.args.view.now page.seen) in
    let p = err_from_is_err_and c.from_residual.result c.from_residual.ensures.1 in
    let stop : IsEntryStop seen c.args.tree.now.widths c.args.tree.now.descends.now Leaf c.args.n c.loop-i.i c.loop-i.last c.loop-i.used c.in_err-check_entry.field-0.0 =
    subst (λ (l : Level). IsEntryStop seen c.args.tree.now.widths c.args.tree.now.descends.now l c.args.n c.loop-i.i c.loop-i.last c.loop-i.used c.in_err-check_entry.field-0.0) c.requires.leaf
    (subst (λ (p : Pages). IsEntryStop p c.args.tree.now.widths c.args.tree.now.descends.now c.args.view.now.level c.args.n c.loop-i.i c.loop-i.last c.loop-i.used c.in_err-check_entry.field-0.0) same
    (c.in_err-check_entry.ensures.fault (still_steady _ _ inv.chains.image steady) (subst (λ (p : Pages). IsViewIn p c.args.n c.args.view.now) (sym same) page.seen))) in
    rw (p.1, p.2)
    (leaf_stop seen c.args.tree.now.widths c.args.tree.now.descends.now c.args.tree.now.root c.args.n c.loop-i.i c.args.last.now c.loop-i.last c.args.used.now c.loop-i.used
    (subst (λ (l : Level). IsPageOf seen Index l c.args.n) c.requires.leaf page.page) within from (inv.before steady page) (inv.marks steady page) c.in_err-check_entry.field-0.0 stop)

pub loop-i-preserved : goal.loop-i-preserved
loop-i-preserved g c =
    let inv = c.loop-i.invariant in
    let told = c.in_ok-check_entry.ensures in
    let seen = pages_seen c.args.pager.now.state in
    let same = same_pages _ _ inv.chains.image in
    let widths = c.args.tree.now.widths in
    let descends : List Bool = c.args.tree.now.descends.now in
    let walked : IsTrue c.args.pager.now.state.source.steady → IsIndexPage seen c.args.tree.now.root c.args.n c.args.view.now
    → IsEntryWalked seen widths descends Leaf c.args.n c.loop-i.i c.loop-i.used c.check_entry.new.used c.loop-i.last c.check_entry.new.last = λ steady page.
    subst (λ (l : Level). IsEntryWalked seen widths descends l c.args.n c.loop-i.i c.loop-i.used c.check_entry.new.used c.loop-i.last c.check_entry.new.last) c.requires.leaf
    (subst (λ (p : Pages). IsEntryWalked p widths descends c.args.view.now.level c.args.n c.loop-i.i c.loop-i.used c.check_entry.new.used c.loop-i.last c.check_entry.new.last) same
    (told.entry (still_steady _ _ inv.chains.image steady) (subst (λ (p : Pages). IsViewIn p c.args.n c.args.view.now) (sym same) page.seen))) in
    let leaf : IsIndexPage seen c.args.tree.now.root c.args.n c.args.view.now → IsPageOf seen Index Leaf c.args.n = λ page. subst (λ (l : Level). IsPageOf seen Index l c.args.n) c.requires.leaf page.page in
    let inside : c.loop-i.i < cell_count c.args.view.now.at c.args.view.now.page = search rules in
    let within : (page : IsIndexPage seen c.args.tree.now.root c.args.n c.args.view.now) → c.loop-i.i < count_at seen c.args.n =
    λ page. omega (arith, inside, count_is seen c.args.n c.args.view.now page.seen) in
    record {
      chains = AsksChainsOnly-trans _ _ _ inv.chains told.reads.chains;
      failures = told.reads.failures ∙ inv.failures;
      run = λ steady page.
          leaf_more seen widths descends c.args.n c.loop-i.i c.args.last.now c.loop-i.last c.check_entry.new.last (inv.run steady page)
          (one_run seen widths descends Leaf c.args.n c.loop-i.i c.loop-i.used c.check_entry.new.used c.loop-i.last c.check_entry.new.last (walked steady page) (leaf page));
      before = λ steady page.
          rw add-one (last_here seen widths descends Leaf c.args.n c.loop-i.i c.loop-i.used c.check_entry.new.used c.loop-i.last c.check_entry.new.last (walked steady page) (leaf page) (within page));
      marks = λ steady page.
          part_more seen widths c.args.tree.now.root Leaf c.args.n c.loop-i.i (walked steady page).bytes c.args.used.now c.loop-i.used c.check_entry.new.used (leaf page) (within page)
          (inv.marks steady page) (walked steady page).read;
    }

pub returns-clause-entries : goal.returns-clause-entries
returns-clause-entries g c = λ steady page.
    let seen = pages_seen c.args.pager.now.state in
    let inv = c.loop-i.invariant in
    let all : c.loop-i.i ≡ cell_count c.args.view.now.at c.args.view.now.page = search rules in
    let end : c.loop-i.i ≡ count_at seen c.args.n = all ∙ count_is seen c.args.n c.args.view.now page.seen in
    leaf_ends seen c.args.tree.now.widths c.args.tree.now.descends.now c.args.n c.loop-i.i c.args.last.now c.loop-i.last end (inv.run steady page) (inv.before steady page)

pub returns-clause-marks : goal.returns-clause-marks
returns-clause-marks g c = λ steady page.
    let seen = pages_seen c.args.pager.now.state in
    let past : cell_count c.args.view.now.at c.args.view.now.page ≤ c.loop-i.i = search rules in
    let all : count_at seen c.args.n ≤ c.loop-i.i = omega (arith, past, count_is seen c.args.n c.args.view.now page.seen) in
    cells_gone seen (index_tree c.args.tree.now.root) Leaf c.args.n c.loop-i.i 0 c.args.used.now c.loop-i.used all (c.loop-i.invariant.marks steady page)
