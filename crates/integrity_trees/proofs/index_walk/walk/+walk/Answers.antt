use Rattle.std.proofs.Common.{◌≡◌, ◌+◌, ◌<◌, ◌≤◌, ◌∙◌, ℕ, IsTrue, rules, arith, sym, ap, subst, inl, inr}
use Rattle.std.proofs.lemmas.Result.{err_from_is_err_and}
use Rattle.pager.specs.declared.header.Header.{Header}
use Rattle.pager.proofs.CallLemmas.{SameImage-trans}
use Rattle.btree.specs.declared.image.kind.TreeKind.TheVariants.{Index}
use Rattle.btree.specs.declared.image.kind.Level.{Level}
use Rattle.btree.specs.declared.image.kind.Level.TheVariants.{Leaf, Interior}
use Rattle.btree.specs.image.Layout.{cell_count}
use Rattle.btree.specs.image.Pages.{Pages, pages_seen}
use Rattle.btree.specs.image.Tree.{IsPageOf, StandsAt, count_at}
use Rattle.btree.proofs.SeenLemmas.{same_pages, still_steady}
use Rattle.btree_cursor.specs.index_entries.Entries.{IsViewIn}
use Rattle.btree_cursor.proofs.lemmas.index_entries.EntryLemmas.{count_is}
use Rattle.integrity_trees.specs.declared.tree_walk.counts.TreeCounts.{TreeCounts}
use Rattle.values.specs.Bounds.{counted}
use Rattle.integrity_trees.specs.tree_walk.Cells.{MarksCells}
use Rattle.integrity_trees.specs.index_walk.Checked.{index_tree}
use Rattle.integrity_trees.specs.index_walk.Last.{IsFrom}
use Rattle.integrity_trees.specs.index_walk.Walked.{AreOwnWalked, IsEntryStop, IsIndexPage, IsLeafCause, IsLeafWalked, IsWalkCause, IsWalked}
use Rattle.integrity_trees.proofs.lemmas.index_walk.BranchLemmas.{AreBranches, all_walked, bad_child, branches_more, child_cause, child_from, child_stands, leaf_cause, leaf_walked, none_branched, own_cause, uneven_here}
use Rattle.integrity_trees.proofs.lemmas.index_walk.SeenLemmas.{no_child, view_child, view_within}
use Rattle.integrity_trees.proofs.index_walk.walk.+walk.Goals as goal

pub returns-in_err-view-clause-fault : goal.returns-in_err-view-clause-fault
returns-in_err-view-clause-fault g t c = λ steady.
    let broken = c.in_err-view.ensures.fault in
    let p = err_from_is_err_and c.from_residual-in_err-view.result c.from_residual-in_err-view.ensures.1 in
    rw (p.1, p.2)
    (inr (inl (inl (broken.1 c.args.pager.now.state c.header-header.ensures c.in_ok-page.ensures.outcome steady (c.args.depth, c.requires.stands steady)))))

pub returns-in_err-check_leaf-clause-fault : goal.returns-in_err-check_leaf-clause-fault
returns-in_err-check_leaf-clause-fault g t c = λ steady.
    let seen = pages_seen c.args.pager.now.state in
    let page = c.in_ok-view.ensures.found c.args.pager.now.state c.header-header.ensures c.in_ok-page.ensures.outcome steady in
    let leaf : c.in_ok-view.view.level ≡ Leaf = c.is_leaf.ensures.leaf c.if-is_leaf.true in
    let read = c.page.ensures.reads.image in
    let same = same_pages _ _ read in
    let p = err_from_is_err_and c.from_residual-in_err-check_leaf.result c.from_residual-in_err-check_leaf.ensures.1 in
    let there = subst (λ (p : Pages). IsIndexPage p c.args.tree.now.root c.args.n c.in_ok-view.view) (sym same) page in
    let from = subst (λ (p : Pages). IsFrom p c.args.tree.now.widths c.args.tree.now.root c.args.last.now c.args.n) (sym same) (c.requires.from steady) in
    let told = subst (λ (p : Pages). IsLeafCause p c.args.tree.now.widths c.args.tree.now.descends.now c.args.tree.now.root c.args.n c.use_page.new.used c.in_err-check_leaf.field-0.0) same
    (c.in_err-check_leaf.ensures.fault (still_steady _ _ read steady) there from) in
    rw (p.1, p.2)
    (leaf_cause seen c.args.tree.now.widths c.args.tree.now.descends.now c.args.tree.now.root c.args.n c.args.used.now c.use_page.new.used c.in_ok-use_page.ensures.blank (c.in_ok-use_page.ensures.marks seen)
    c.args.depth (c.requires.stands steady) (subst (λ (l : Level). IsPageOf seen Index l c.args.n) leaf page.page) c.in_err-check_leaf.field-0.0 told)

pub returns-then-is_leaf-clause-walked : goal.returns-then-is_leaf-clause-walked
returns-then-is_leaf-clause-walked g t c = λ steady.
    let seen = pages_seen c.args.pager.now.state in
    let page = c.in_ok-view.ensures.found c.args.pager.now.state c.header-header.ensures c.in_ok-page.ensures.outcome steady in
    let leaf : c.in_ok-view.view.level ≡ Leaf = c.is_leaf.ensures.leaf c.if-is_leaf.true in
    let read = c.page.ensures.reads.image in
    let same = same_pages _ _ read in
    let there = subst (λ (p : Pages). IsIndexPage p c.args.tree.now.root c.args.n c.in_ok-view.view) (sym same) page in
    let now = still_steady _ _ read steady in
    let held = c.in_ok-check_leaf.ensures.entries now there in
    let cells = subst (λ (p : Pages). MarksCells p (index_tree c.args.tree.now.root) Leaf c.args.n c.use_page.new.used c.check_leaf.new.used) same
    (c.in_ok-check_leaf.ensures.marks now there) in
    let count : c.from.result ≡ count_at seen c.args.n = omega (arith, c.from.ensures, c.count.ensures, count_is seen c.args.n c.in_ok-view.view page.seen) in
    subst (λ (counts : TreeCounts). IsWalked seen c.args.tree.now.widths c.args.tree.now.descends.now c.args.tree.now.root c.args.n counts c.args.used.now c.check_leaf.new.used c.args.last.now c.check_leaf.new.last) (sym c.counts_of_page.ensures)
    (leaf_walked seen c.args.tree.now.widths c.args.tree.now.descends.now c.args.tree.now.root c.args.n c.args.used.now c.use_page.new.used c.in_ok-use_page.ensures.blank (c.in_ok-use_page.ensures.marks seen)
    c.args.depth (c.requires.stands steady) (subst (λ (l : Level). IsPageOf seen Index l c.args.n) leaf page.page) c.from.result count (search rules) (page.filled leaf)
    c.args.last.now c.check_leaf.new.last (subst (λ (p : Pages). IsLeafWalked p c.args.tree.now.widths c.args.tree.now.descends.now c.args.n c.args.last.now c.check_leaf.new.last) same held) c.check_leaf.new.used cells)

pub loop-i-init : goal.loop-i-init
loop-i-init g t c = record {
  stays = search rules;
  failures = search rules;
  shallow = search rules;
  befores = λ steady.
      let seen = pages_seen c.args.pager.now.state in
      none_branched seen c.args.tree.now.widths c.args.tree.now.descends.now c.args.tree.now.root c.args.n c.args.used.now c.use_page.new.used c.in_ok-use_page.ensures.blank (c.in_ok-use_page.ensures.marks seen)
      c.counts_of_page-counts.result c.args.last.now (ap (λ (t : TreeCounts). t.cells) c.counts_of_page-counts.ensures) (ap (λ (t : TreeCounts). t.pages) c.counts_of_page-counts.ensures);
}

pub returns-in_default-clause-fault : goal.returns-in_default-clause-fault
returns-in_default-clause-fault g t c = λ steady.
    let seen = pages_seen c.args.pager.now.state in
    let page = c.in_ok-view.ensures.found c.args.pager.now.state c.header-header.ensures c.in_ok-page.ensures.outcome steady in
    let interior : c.in_ok-view.view.level ≡ Interior = c.is_leaf.ensures.interior c.if-is_leaf.false in
    let inner = subst (λ (l : Level). IsPageOf seen Index l c.args.n) interior page.page in
    let within : c.loop-i.i ≤ cell_count c.in_ok-view.view.at c.in_ok-view.view.page = search rules in
    let count : c.header-header.result.pages ≡ c.args.pager.now.state.header.pages = ap (λ (h : Header). h.pages) c.header-header.ensures.is in
    inr (inl (inl (bad_child seen c.args.tree.now.root c.args.depth c.args.n (c.requires.stands steady) c.loop-i.i inner (view_within seen c.args.n c.in_ok-view.view page.seen c.loop-i.i within)
    (no_child seen c.args.n c.in_ok-view.view page.seen c.loop-i.i c.header-header.result.pages count inner c.in_default.ensures.none))))

pub walk-requires : goal.walk-requires
walk-requires g t c κs within =
    let inv = c.loop-i.invariant in
    let header : c.header-header.result ≡ c.args.pager.now.state.header = c.header-header.ensures.is in
    let kid = c.in-Some.ensures.found in (
      omega arith,
      (
        within,
        (
          (kid.1, subst (λ (h : Header). c.in-Some.child ≤ h.pages) (header ∙ sym inv.stays.header) kid.2),
          (
            search rules,
            (
              λ now.
                  let steady : IsTrue c.args.pager.now.state.source.steady = sym inv.stays.steady ∙ now in
                  let seen = pages_seen c.args.pager.now.state in
                  let page = c.in_ok-view.ensures.found c.args.pager.now.state c.header-header.ensures c.in_ok-page.ensures.outcome steady in
                  let interior : c.in_ok-view.view.level ≡ Interior = c.is_leaf.ensures.interior c.if-is_leaf.false in
                  let inner = subst (λ (l : Level). IsPageOf seen Index l c.args.n) interior page.page in
                  let in_count : c.loop-i.i ≤ cell_count c.in_ok-view.view.at c.in_ok-view.view.page = search rules in
                  subst (λ (p : Pages). StandsAt p Index c.args.tree.now.root (c.args.depth + 1) c.in-Some.child) (sym (same_pages _ _ inv.stays))
                  (child_stands seen c.args.tree.now.root c.args.depth c.args.n (c.requires.stands steady) c.loop-i.i c.in-Some.child inner
                  (view_within seen c.args.n c.in_ok-view.view page.seen c.loop-i.i in_count) (view_child seen c.args.n c.in_ok-view.view page.seen c.loop-i.i c.in-Some.child kid.0)
                  (kid.1, subst (λ (h : Header). c.in-Some.child ≤ h.pages) header kid.2)),
              λ now.
                  let steady : IsTrue c.args.pager.now.state.source.steady = sym inv.stays.steady ∙ now in
                  let seen = pages_seen c.args.pager.now.state in
                  let page = c.in_ok-view.ensures.found c.args.pager.now.state c.header-header.ensures c.in_ok-page.ensures.outcome steady in
                  let interior : c.in_ok-view.view.level ≡ Interior = c.is_leaf.ensures.interior c.if-is_leaf.false in
                  let inner = subst (λ (l : Level). IsPageOf seen Index l c.args.n) interior page.page in
                  let in_count : c.loop-i.i ≤ cell_count c.in_ok-view.view.at c.in_ok-view.view.page = search rules in
                  subst (λ (p : Pages). IsFrom p c.args.tree.now.widths c.args.tree.now.root c.loop-i.last c.in-Some.child) (sym (same_pages _ _ inv.stays))
                  (child_from seen c.args.tree.now.widths c.args.tree.now.descends.now c.args.tree.now.root c.args.depth c.args.n (c.requires.stands steady) inner c.loop-i.i c.loop-i.counts c.args.used.now c.loop-i.used
                  c.args.last.now c.loop-i.last (inv.befores steady) (view_within seen c.args.n c.in_ok-view.view page.seen c.loop-i.i in_count) c.in-Some.child
                  (view_child seen c.args.n c.in_ok-view.view page.seen c.loop-i.i c.in-Some.child kid.0)
                  (kid.1, subst (λ (h : Header). c.in-Some.child ≤ h.pages) header kid.2) (c.requires.from steady)),
            ),
          ),
        ),
      ),
    )

pub returns-in_err-below-clause-fault : goal.returns-in_err-below-clause-fault
returns-in_err-below-clause-fault g t c = λ steady.
    let inv = c.loop-i.invariant in
    let header : c.header-header.result ≡ c.args.pager.now.state.header = c.header-header.ensures.is in
    let kid = c.in-Some.ensures.found in
    let now = still_steady _ _ inv.stays steady in
    let seen = pages_seen c.args.pager.now.state in
    let page = c.in_ok-view.ensures.found c.args.pager.now.state c.header-header.ensures c.in_ok-page.ensures.outcome steady in
    let interior : c.in_ok-view.view.level ≡ Interior = c.is_leaf.ensures.interior c.if-is_leaf.false in
    let inner = subst (λ (l : Level). IsPageOf seen Index l c.args.n) interior page.page in
    let in_count : c.loop-i.i ≤ cell_count c.in_ok-view.view.at c.in_ok-view.view.page = search rules in
    let p = err_from_is_err_and c.from_residual-in_err-below.result c.from_residual-in_err-below.ensures.1 in
    let told = subst (λ (p : Pages). IsWalkCause p c.args.tree.now.widths c.args.tree.now.descends.now c.args.tree.now.root c.in-Some.child c.loop-i.used c.in_err-below.field-0.0) (same_pages _ _ inv.stays)
    (c.in_err-below.ensures.fault now) in
    rw (p.1, p.2)
    (child_cause seen c.args.tree.now.widths c.args.tree.now.descends.now c.args.tree.now.root c.args.depth c.args.n (c.requires.stands steady) inner c.loop-i.i c.loop-i.counts c.args.used.now c.loop-i.used c.args.last.now c.loop-i.last (inv.befores steady)
    (view_within seen c.args.n c.in_ok-view.view page.seen c.loop-i.i in_count) c.in-Some.child (view_child seen c.args.n c.in_ok-view.view page.seen c.loop-i.i c.in-Some.child kid.0)
    (kid.1, subst (λ (h : Header). c.in-Some.child ≤ h.pages) header kid.2) c.in_err-below.field-0.0 told)

pub returns-then-is_uneven-clause-fault : goal.returns-then-is_uneven-clause-fault
returns-then-is_uneven-clause-fault g t c = λ steady.
    let inv = c.loop-i.invariant in
    let header : c.header-header.result ≡ c.args.pager.now.state.header = c.header-header.ensures.is in
    let kid = c.in-Some.ensures.found in
    let now = still_steady _ _ inv.stays steady in
    let seen = pages_seen c.args.pager.now.state in
    let page = c.in_ok-view.ensures.found c.args.pager.now.state c.header-header.ensures c.in_ok-page.ensures.outcome steady in
    let interior : c.in_ok-view.view.level ≡ Interior = c.is_leaf.ensures.interior c.if-is_leaf.false in
    let inner = subst (λ (l : Level). IsPageOf seen Index l c.args.n) interior page.page in
    let in_count : c.loop-i.i ≤ cell_count c.in_ok-view.view.at c.in_ok-view.view.page = search rules in
    let odd = c.is_uneven.ensures.uneven c.if-is_uneven.true in
    let walked = subst (λ (p : Pages). IsWalked p c.args.tree.now.widths c.args.tree.now.descends.now c.args.tree.now.root c.in-Some.child c.in_ok-below.below c.loop-i.used c.walk.new.used c.loop-i.last c.walk.new.last) (same_pages _ _ inv.stays)
    (c.in_ok-below.ensures.walked now) in
    inr (inl (inl (uneven_here seen c.args.tree.now.widths c.args.tree.now.descends.now c.args.tree.now.root c.args.depth c.args.n (c.requires.stands steady) inner c.loop-i.i c.loop-i.counts c.args.used.now c.loop-i.used c.args.last.now c.loop-i.last (inv.befores steady)
    (view_within seen c.args.n c.in_ok-view.view page.seen c.loop-i.i in_count) c.in-Some.child (view_child seen c.args.n c.in_ok-view.view page.seen c.loop-i.i c.in-Some.child kid.0)
    (kid.1, subst (λ (h : Header). c.in-Some.child ≤ h.pages) header kid.2) c.in_ok-below.below c.walk.new.used c.walk.new.last walked odd.0 odd.1)))

pub returns-in_err-own-clause-fault : goal.returns-in_err-own-clause-fault
returns-in_err-own-clause-fault g t c = λ steady.
    let inv = c.loop-i.invariant in
    let header : c.header-header.result ≡ c.args.pager.now.state.header = c.header-header.ensures.is in
    let kid = c.in-Some.ensures.found in
    let now = still_steady _ _ inv.stays steady in
    let seen = pages_seen c.args.pager.now.state in
    let page = c.in_ok-view.ensures.found c.args.pager.now.state c.header-header.ensures c.in_ok-page.ensures.outcome steady in
    let interior : c.in_ok-view.view.level ≡ Interior = c.is_leaf.ensures.interior c.if-is_leaf.false in
    let inner = subst (λ (l : Level). IsPageOf seen Index l c.args.n) interior page.page in
    let in_count : c.loop-i.i ≤ cell_count c.in_ok-view.view.at c.in_ok-view.view.page = search rules in
    let walked = subst (λ (p : Pages). IsWalked p c.args.tree.now.widths c.args.tree.now.descends.now c.args.tree.now.root c.in-Some.child c.in_ok-below.below c.loop-i.used c.walk.new.used c.loop-i.last c.walk.new.last) (same_pages _ _ inv.stays)
    (c.in_ok-below.ensures.walked now) in
    let even = c.is_uneven.ensures.even c.if-is_uneven.false in
    let then = SameImage-trans _ _ _ inv.stays c.walk.ensures.reads.image in
    let same = same_pages _ _ then in
    let p = err_from_is_err_and c.from_residual-in_err-own.result c.from_residual-in_err-own.ensures.1 in
    let told = c.in_err-own.ensures.fault (still_steady _ _ then steady) (subst (λ (p : Pages). IsViewIn p c.args.n c.in_ok-view.view) (sym same) page.seen) in
    let cause = subst (λ (l : Level). IsEntryStop seen c.args.tree.now.widths c.args.tree.now.descends.now l c.args.n c.loop-i.i c.walk.new.last c.walk.new.used c.in_err-own.field-0.0) interior
    (subst (λ (p : Pages). IsEntryStop p c.args.tree.now.widths c.args.tree.now.descends.now c.in_ok-view.view.level c.args.n c.loop-i.i c.walk.new.last c.walk.new.used c.in_err-own.field-0.0) same told) in
    let less : c.loop-i.i < count_at seen c.args.n = omega (arith, c.in_err-own.ensures.some, count_is seen c.args.n c.in_ok-view.view page.seen) in
    rw (p.1, p.2)
    (own_cause seen c.args.tree.now.widths c.args.tree.now.descends.now c.args.tree.now.root c.args.depth c.args.n (c.requires.stands steady) inner c.loop-i.i c.loop-i.counts c.args.used.now c.loop-i.used c.args.last.now c.loop-i.last (inv.befores steady)
    (view_within seen c.args.n c.in_ok-view.view page.seen c.loop-i.i in_count) c.in-Some.child (view_child seen c.args.n c.in_ok-view.view page.seen c.loop-i.i c.in-Some.child kid.0)
    (kid.1, subst (λ (h : Header). c.in-Some.child ≤ h.pages) header kid.2) c.in_ok-below.below c.walk.new.used c.walk.new.last walked even less c.in_err-own.field-0.0 cause)

pub loop-i-preserved : goal.loop-i-preserved
loop-i-preserved g t c =
    let inv = c.loop-i.invariant in
    let even = c.is_uneven.ensures.even c.if-is_uneven.false in
    let deep = c.in_ok-below.ensures.deep in
    let own_is : c.with_own.result ≡ _ = c.with_own.ensures in
    let levels : c.join-counts.result.levels ≡ c.in_ok-below.below.levels = c.join-counts.ensures.levels ∙ ap (λ (t : TreeCounts). t.levels) own_is in
    let header : c.header-header.result ≡ c.args.pager.now.state.header = c.header-header.ensures.is in
    let kid = c.in-Some.ensures.found in
    let interior : c.in_ok-view.view.level ≡ Interior = c.is_leaf.ensures.interior c.if-is_leaf.false in
    let in_count : c.loop-i.i ≤ cell_count c.in_ok-view.view.at c.in_ok-view.view.page = search rules in
    let then = SameImage-trans _ _ _ inv.stays c.walk.ensures.reads.image in
    record {
      stays = SameImage-trans _ _ _ then c.check_own.ensures.reads.chains.image;
      failures = c.in_ok-own.ensures.reads.failures ∙ (c.in_ok-below.ensures.reads.failures ∙ inv.failures);
      shallow = λ some. omega (arith, deep, levels);
      befores = λ steady.
          let seen = pages_seen c.args.pager.now.state in
          let page = c.in_ok-view.ensures.found c.args.pager.now.state c.header-header.ensures c.in_ok-page.ensures.outcome steady in
          let inner = subst (λ (l : Level). IsPageOf seen Index l c.args.n) interior page.page in
          let walked = subst (λ (p : Pages). IsWalked p c.args.tree.now.widths c.args.tree.now.descends.now c.args.tree.now.root c.in-Some.child c.in_ok-below.below c.loop-i.used c.walk.new.used c.loop-i.last c.walk.new.last) (same_pages _ _ inv.stays)
          (c.in_ok-below.ensures.walked (still_steady _ _ inv.stays steady)) in
          let same = same_pages _ _ then in
          let told = c.in_ok-own.ensures.own (still_steady _ _ then steady) (subst (λ (p : Pages). IsViewIn p c.args.n c.in_ok-view.view) (sym same) page.seen) in
          let owns = subst (λ (l : Level). AreOwnWalked seen c.args.tree.now.widths c.args.tree.now.descends.now l c.args.n c.loop-i.i c.in_ok-own.own c.walk.new.used c.check_own.new.used c.walk.new.last c.check_own.new.last) interior
          (subst (λ (p : Pages). AreOwnWalked p c.args.tree.now.widths c.args.tree.now.descends.now c.in_ok-view.view.level c.args.n c.loop-i.i c.in_ok-own.own c.walk.new.used c.check_own.new.used c.walk.new.last c.check_own.new.last) same told) in
          subst (λ (l : ℕ). AreBranches seen c.args.tree.now.widths c.args.tree.now.descends.now c.args.tree.now.root c.args.n (c.loop-i.i + 1) (record { levels = l; cells = c.join-counts.result.cells; pages = c.join-counts.result.pages })
          c.args.used.now c.check_own.new.used c.args.last.now c.check_own.new.last) (sym levels)
          (branches_more seen c.args.tree.now.widths c.args.tree.now.descends.now c.args.tree.now.root c.args.depth c.args.n (c.requires.stands steady) inner c.loop-i.i c.loop-i.counts c.args.used.now c.loop-i.used c.args.last.now c.loop-i.last (inv.befores steady)
          (view_within seen c.args.n c.in_ok-view.view page.seen c.loop-i.i in_count) c.in-Some.child (view_child seen c.args.n c.in_ok-view.view page.seen c.loop-i.i c.in-Some.child kid.0)
          (kid.1, subst (λ (h : Header). c.in-Some.child ≤ h.pages) header kid.2) c.in_ok-below.below c.walk.new.used c.walk.new.last walked even c.in_ok-own.own c.check_own.new.used c.check_own.new.last owns
          c.join-counts.result.cells c.join-counts.result.pages
          (c.join-counts.ensures.cells ∙ ap (λ (t : TreeCounts). counted (c.loop-i.counts.cells + t.cells)) own_is)
          (c.join-counts.ensures.pages ∙ ap (λ (t : TreeCounts). counted (c.loop-i.counts.pages + t.pages)) own_is));
    }

pub returns-clause-walked : goal.returns-clause-walked
returns-clause-walked g t c = λ steady.
    let inv = c.loop-i.invariant in
    let seen = pages_seen c.args.pager.now.state in
    let page = c.in_ok-view.ensures.found c.args.pager.now.state c.header-header.ensures c.in_ok-page.ensures.outcome steady in
    let interior : c.in_ok-view.view.level ≡ Interior = c.is_leaf.ensures.interior c.if-is_leaf.false in
    let inner = subst (λ (l : Level). IsPageOf seen Index l c.args.n) interior page.page in
    let end : c.loop-i.i ≡ cell_count c.in_ok-view.view.at c.in_ok-view.view.page + 1 = search rules in
    all_walked seen c.args.tree.now.widths c.args.tree.now.descends.now c.args.tree.now.root c.args.depth c.args.n (c.requires.stands steady) inner c.loop-i.i c.loop-i.counts c.args.used.now c.loop-i.used c.args.last.now c.loop-i.last (inv.befores steady)
    (omega (arith, end, count_is seen c.args.n c.in_ok-view.view page.seen))
