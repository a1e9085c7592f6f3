use Rattle.std.proofs.Common.{All, ◌≡◌, ◌+◌, ◌*◌, ◌<◌, ◌≤◌, ℕ, rules, arith, sym, ◌∙◌, ap, subst, inl, inr, ⊎_elim, IsTrue, add-one}
use Rattle.std.proofs.lemmas.Result.{err_from_is_err_and}
use Rattle.pager.specs.declared.header.Header.{Header}
use Rattle.pager.proofs.CallLemmas.{SameImage-trans}
use Rattle.btree.specs.declared.image.kind.Level.TheVariants.{Leaf, Interior}
use Rattle.btree.specs.image.Layout.{cell_count, child}
use Rattle.btree.specs.image.Tree.{child_at}
use Rattle.btree.specs.image.Pages.{pages_seen, Pages}
use Rattle.btree.specs.declared.image.kind.Level.{Level}
use Rattle.btree.specs.declared.image.kind.TreeKind.TheVariants.{Table}
use Rattle.btree.specs.image.Broken.{IsBroken}
use Rattle.btree.specs.image.Shape.{places_under}
use Rattle.values.specs.declared.fault.Fault.TheVariants.{BadDepth}
use Rattle.integrity_trees.specs.declared.tree_walk.counts.TreeCounts.{TreeCounts}
use Rattle.records_tables.specs.stored_rows.Keys.{HasCells, IsHead}
use Rattle.records_tables.specs.stored_rows.Links.{IsRowTwice, MarksRows, table_tree}
use Rattle.records_tables.specs.stored_rows.RowFaults.{AreRowsIn, IsBrokenTable, IsLeafFault}
use Rattle.records_tables.specs.stored_rows.Stored.{HoldsRow}
use Rattle.records_tables.proofs.lemmas.stored_rows.LinkLemmas.{no_links_in}
use Rattle.integrity_trees.proofs.lemmas.table_walk.HeldLemmas.{held_leaf, held_more, held_under, leaf_fault}
use Rattle.integrity_trees.proofs.lemmas.table_walk.WalkLemmas.{see, seen_child, broken_header, broken_head, leaf_tree, leaf_counts, inner, broken_child, step_met, step_branch, step_under, here_within, uneven, more_branches, end_is, inner_tree}
use Rattle.btree.proofs.SeenLemmas.{still_steady, same_pages}
use Rattle.values.specs.Bounds.{counted}
use Rattle.integrity_trees.specs.tree_walk.Counts.{AreCounts}
use Rattle.integrity_trees.specs.tree_walk.Used.{IsUnderTwice, MarksUnder}
use Rattle.integrity_trees.specs.table_walk.Walked.{StandsWithin, IsTree}
use Rattle.integrity_trees.proofs.lemmas.table_walk.UsedLemmas.{child_twice, children_all, children_more, children_none, leaf_linked, leaf_plain, row_twice}
use Rattle.integrity_trees.proofs.lemmas.tree_walk.UsedLemmas.{marked_twice}
use Rattle.integrity_trees.proofs.lemmas.table_walk.BoundLemmas.{has_child}
use Rattle.integrity_trees.proofs.lemmas.tree_walk.CountLemmas.{cells_all, cells_step, size_all, size_step}
use Rattle.integrity_trees.proofs.table_walk.walk.+walk.Goals as goal

pub returns-in_default-clause-fault : goal.returns-in_default-clause-fault
returns-in_default-clause-fault g t c = λ steady.
    inr (inl (inl (broken_header c.args.pager.now.state c.header-header.result c.header-header.ensures.is c.header-header.ensures.sound c.args.n c.in_ok-page.page
    (c.in_ok-page.ensures.outcome.is steady) c.in_ok-page.ensures.outcome.long c.args.table.now.root c.args.depth c.args.low c.args.high (c.requires.met steady) c.in_default.ensures.none)))

pub returns-then-is_leaf_of_rows-clause-tree : goal.returns-then-is_leaf_of_rows-clause-tree
returns-then-is_leaf_of_rows-clause-tree g t c = λ steady.
    let leaf = c.is_leaf_of_rows.ensures.leaf c.if-is_leaf_of_rows.true in
    let head = subst (λ (l : Level). IsHead c.in-Some.view.at (c.header-header.result.pages * c.header-header.result.page_size) c.in-Some.view.page l c.args.table.now.root c.args.n c.args.low c.args.high) (sym leaf)
    (c.is_leaf_of_rows.ensures.head c.if-is_leaf_of_rows.true) in
    subst (λ (counts : TreeCounts). IsTree (pages_seen c.args.pager.now.state) c.args.table.now.root counts.levels c.args.low c.args.high c.args.n) (sym c.counts_of_page.ensures)
    (leaf_tree c.args.pager.now.state c.header-header.result c.header-header.ensures.is c.header-header.ensures.sound c.args.n c.in_ok-page.page
    (c.in_ok-page.ensures.outcome.is steady) c.in_ok-page.ensures.outcome.long c.args.table.now.root c.args.depth c.args.low c.args.high (c.requires.met steady)
    c.in-Some.view c.in-Some.ensures.found.0.is c.in-Some.ensures.found.0.header head leaf)

pub returns-then-is_leaf_of_rows-clause-counts : goal.returns-then-is_leaf_of_rows-clause-counts
returns-then-is_leaf_of_rows-clause-counts g t c = λ steady.
    subst (λ (counts : TreeCounts). AreCounts (pages_seen c.args.pager.now.state) Table counts.levels c.args.n counts.cells counts.pages) (sym c.counts_of_page.ensures)
    (leaf_counts c.args.pager.now.state c.header-header.result c.header-header.ensures.is c.header-header.ensures.sound c.args.n c.in_ok-page.page
    (c.in_ok-page.ensures.outcome.is steady) c.in_ok-page.ensures.outcome.long c.args.table.now.root c.args.depth c.args.low c.args.high (c.requires.met steady)
    c.in-Some.view c.in-Some.ensures.found.0.is c.in-Some.ensures.found.0.header c.from.result (search rules) (search rules))

pub returns-then-is_leaf_of_rows-clause-rows : goal.returns-then-is_leaf_of_rows-clause-rows
returns-then-is_leaf_of_rows-clause-rows g t c = λ steady.
    let seen = see c.args.pager.now.state c.header-header.result c.header-header.ensures.is c.header-header.ensures.sound c.args.n c.in_ok-page.page
    (c.in_ok-page.ensures.outcome.is steady) c.in_ok-page.ensures.outcome.long c.args.table.now.root c.args.depth c.args.low c.args.high (c.requires.met steady)
    c.in-Some.view c.in-Some.ensures.found.0.is c.in-Some.ensures.found.0.header in
    let rows = c.is_leaf_of_rows.ensures.rows c.if-is_leaf_of_rows.true (pages_seen c.args.pager.now.state) in
    subst (λ (counts : TreeCounts). All (HoldsRow (pages_seen c.args.pager.now.state) c.args.table.now) (places_under (pages_seen c.args.pager.now.state) Table counts.levels c.args.n)) (sym c.counts_of_page.ensures)
    (held_leaf (pages_seen c.args.pager.now.state) c.args.table.now c.args.n _ _ _ seen rows)

pub returns-in_err-level-clause-fault : goal.returns-in_err-level-clause-fault
returns-in_err-level-clause-fault g t c = λ steady.
    let p = err_from_is_err_and c.from_residual-in_err-level.result c.from_residual-in_err-level.ensures.1 in
    rw (p.1, p.2)
    (inr (inl (inl (broken_head c.args.pager.now.state c.header-header.result c.header-header.ensures.is c.header-header.ensures.sound c.args.n c.in_ok-page.page
    (c.in_ok-page.ensures.outcome.is steady) c.in_ok-page.ensures.outcome.long c.args.table.now.root c.args.depth c.args.low c.args.high (c.requires.met steady)
    c.in-Some.view c.in-Some.ensures.found.0.is c.in-Some.ensures.found.0.header _ c.in_err-level.ensures.fault))))

pub returns-then-eq-clause-tree : goal.returns-then-eq-clause-tree
returns-then-eq-clause-tree g t c = λ steady.
    let leaf : c.in-Some.view.level ≡ Leaf = sym c.in_ok-level.ensures.level ∙ search rules in
    subst (λ (counts : TreeCounts). IsTree (pages_seen c.args.pager.now.state) c.args.table.now.root counts.levels c.args.low c.args.high c.args.n) (sym c.counts_of_page-then-eq.ensures)
    (leaf_tree c.args.pager.now.state c.header-header.result c.header-header.ensures.is c.header-header.ensures.sound c.args.n c.in_ok-page.page
    (c.in_ok-page.ensures.outcome.is steady) c.in_ok-page.ensures.outcome.long c.args.table.now.root c.args.depth c.args.low c.args.high (c.requires.met steady)
    c.in-Some.view c.in-Some.ensures.found.0.is c.in-Some.ensures.found.0.header c.in_ok-level.ensures.head leaf)

pub returns-then-eq-clause-counts : goal.returns-then-eq-clause-counts
returns-then-eq-clause-counts g t c = λ steady.
    subst (λ (counts : TreeCounts). AreCounts (pages_seen c.args.pager.now.state) Table counts.levels c.args.n counts.cells counts.pages) (sym c.counts_of_page-then-eq.ensures)
    (leaf_counts c.args.pager.now.state c.header-header.result c.header-header.ensures.is c.header-header.ensures.sound c.args.n c.in_ok-page.page
    (c.in_ok-page.ensures.outcome.is steady) c.in_ok-page.ensures.outcome.long c.args.table.now.root c.args.depth c.args.low c.args.high (c.requires.met steady)
    c.in-Some.view c.in-Some.ensures.found.0.is c.in-Some.ensures.found.0.header c.from-then-eq.result (search rules) (search rules))

pub returns-in_default-child_within-clause-fault : goal.returns-in_default-child_within-clause-fault
returns-in_default-child_within-clause-fault g t c = λ steady.
    let interior : c.in-Some.view.level ≡ Interior = search rules in
    let within : c.loop-i.i ≤ cell_count c.in-Some.view.at c.in-Some.view.page = search rules in
    let all = inner c.args.pager.now.state c.header-header.result c.header-header.ensures.is c.header-header.ensures.sound c.args.n c.in_ok-page.page
    (c.in_ok-page.ensures.outcome.is steady) c.in_ok-page.ensures.outcome.long c.args.table.now.root c.args.depth c.args.low c.args.high (c.requires.met steady)
    c.in-Some.view c.in-Some.ensures.found.0.is c.in-Some.ensures.found.0.header c.in_ok-level.ensures.head interior in
    let header : c.header-header.result ≡ c.args.pager.now.state.header = c.header-header.ensures.is in
    inr (inl (inl (broken_child _ _ _ _ _ _ _ _ _ all c.loop-i.i within (subst (λ (h : Header). ¬ ((1 ≤ child c.in-Some.view.at c.in-Some.view.page c.loop-i.i) × (child c.in-Some.view.at c.in-Some.view.page c.loop-i.i ≤ h.pages))) header (c.in_default-child_within.ensures.none (has_child c.in-Some.view.at (c.header-header.result.pages * c.header-header.result.page_size) c.in-Some.view.page all.cells c.loop-i.i))))))

pub walk-requires : goal.walk-requires
walk-requires g t c κs within =
    let inv = c.loop-i.invariant in
    let header : c.header-header.result ≡ c.args.pager.now.state.header = c.header-header.ensures.is in
    let kid = c.in-Some-child_within.ensures.found in (
      omega arith,
      (
        within,
        (
          (kid.1, subst (λ (h : Header). c.in-Some-child_within.child ≤ h.pages) (header ∙ sym inv.stays.header) kid.2),
          (
            search rules,
            λ now.
                let steady : IsTrue c.args.pager.now.state.source.steady = sym inv.stays.steady ∙ now in
                let interior : c.in-Some.view.level ≡ Interior = search rules in
                let in_count : c.loop-i.i ≤ cell_count c.in-Some.view.at c.in-Some.view.page = search rules in
                let all = inner c.args.pager.now.state c.header-header.result c.header-header.ensures.is c.header-header.ensures.sound c.args.n c.in_ok-page.page
                (c.in_ok-page.ensures.outcome.is steady) c.in_ok-page.ensures.outcome.long c.args.table.now.root c.args.depth c.args.low c.args.high (c.requires.met steady)
                c.in-Some.view c.in-Some.ensures.found.0.is c.in-Some.ensures.found.0.header c.in_ok-level.ensures.head interior in
                subst (λ (p : Pages). StandsWithin p c.args.table.now.root (c.args.depth + 1) c.low_bound-low.result c.high_bound-high.result c.in-Some-child_within.child) (sym (same_pages _ _ inv.stays))
                (step_met _ _ _ _ _ _ _ _ _ all c.loop-i.i in_count c.in-Some-child_within.child c.low_bound-low.result c.high_bound-high.result kid.0
                (kid.1, subst (λ (h : Header). c.in-Some-child_within.child ≤ h.pages) header kid.2)
                c.low_bound-low.ensures.first (λ k. c.low_bound-low.ensures.inner (c.header-header.result.pages * c.header-header.result.page_size) k all.cells) (c.high_bound-high.ensures.inner (c.header-header.result.pages * c.header-header.result.page_size) all.cells) c.high_bound-high.ensures.last),
          ),
        ),
      ),
    )

pub returns-then-is_uneven-clause-fault : goal.returns-then-is_uneven-clause-fault
returns-then-is_uneven-clause-fault g t c = λ steady.
    let inv = c.loop-i.invariant in
    let header : c.header-header.result ≡ c.args.pager.now.state.header = c.header-header.ensures.is in
    let kid = c.in-Some-child_within.ensures.found in
    let now = still_steady _ _ inv.stays steady in
    let interior : c.in-Some.view.level ≡ Interior = search rules in
    let in_count : c.loop-i.i ≤ cell_count c.in-Some.view.at c.in-Some.view.page = search rules in
    let all = inner c.args.pager.now.state c.header-header.result c.header-header.ensures.is c.header-header.ensures.sound c.args.n c.in_ok-page.page
    (c.in_ok-page.ensures.outcome.is steady) c.in_ok-page.ensures.outcome.long c.args.table.now.root c.args.depth c.args.low c.args.high (c.requires.met steady)
    c.in-Some.view c.in-Some.ensures.found.0.is c.in-Some.ensures.found.0.header c.in_ok-level.ensures.head interior in
    let tree = subst (λ (p : Pages). IsTree p c.args.table.now.root c.in_ok-below.below.levels c.low_bound-low.result c.high_bound-high.result c.in-Some-child_within.child) (same_pages _ _ inv.stays) (c.in_ok-below.ensures.tree now) in
    let later = step_branch _ _ _ _ _ _ _ _ _ all c.loop-i.i in_count c.in-Some-child_within.child c.low_bound-low.result c.high_bound-high.result kid.0
    (kid.1, subst (λ (h : Header). c.in-Some-child_within.child ≤ h.pages) header kid.2)
    c.low_bound-low.ensures.first (λ k. c.low_bound-low.ensures.inner (c.header-header.result.pages * c.header-header.result.page_size) k all.cells) (c.high_bound-high.ensures.inner (c.header-header.result.pages * c.header-header.result.page_size) all.cells) c.high_bound-high.ensures.last
    c.in_ok-below.below.levels tree in
    let odd = c.is_uneven.ensures.uneven c.if-is_uneven.true in
    let here : c.loop-i.i ≤ _ = here_within _ _ _ _ _ _ _ _ _ all c.loop-i.i in_count in
    inr (inl (inl (subst (λ (r : ℕ). IsBroken (pages_seen c.args.pager.now.state) c.args.table.now.root (BadDepth r)) (sym c.root-then-is_uneven.ensures)
    (uneven _ _ _ _ _ _ all.met c.loop-i.i c.loop-i.counts.levels c.in_ok-below.below.levels all.page_is here (inv.branches steady 0 odd.0) later odd.1))))

pub loop-i-preserved : goal.loop-i-preserved
loop-i-preserved g t c =
    let inv = c.loop-i.invariant in
    let even = c.is_uneven.ensures.even c.if-is_uneven.false in
    let deep = c.in_ok-below.ensures.deep in
    let levels : c.join-counts.result.levels ≡ c.in_ok-below.below.levels = c.join-counts.ensures.levels in
    let same : 0 < c.loop-i.i → c.loop-i.counts.levels ≡ c.join-counts.result.levels = λ some. even some ∙ sym levels in
    let header : c.header-header.result ≡ c.args.pager.now.state.header = c.header-header.ensures.is in
    let kid = c.in-Some-child_within.ensures.found in
    let interior : c.in-Some.view.level ≡ Interior = search rules in
    let in_count : c.loop-i.i ≤ cell_count c.in-Some.view.at c.in-Some.view.page = search rules in
    record {
      stays = SameImage-trans _ _ _ inv.stays c.walk.ensures.reads.image;
      failures = c.in_ok-below.ensures.reads.failures ∙ inv.failures;
      shallow = λ some. omega (arith, deep, levels);
      branches = λ steady.
          let now = still_steady _ _ inv.stays steady in
          let all = inner c.args.pager.now.state c.header-header.result c.header-header.ensures.is c.header-header.ensures.sound c.args.n c.in_ok-page.page
          (c.in_ok-page.ensures.outcome.is steady) c.in_ok-page.ensures.outcome.long c.args.table.now.root c.args.depth c.args.low c.args.high (c.requires.met steady)
          c.in-Some.view c.in-Some.ensures.found.0.is c.in-Some.ensures.found.0.header c.in_ok-level.ensures.head interior in
          let tree = subst (λ (l : ℕ). IsTree (pages_seen c.args.pager.now.state) c.args.table.now.root l c.low_bound-low.result c.high_bound-high.result c.in-Some-child_within.child) (sym levels)
          (subst (λ (p : Pages). IsTree p c.args.table.now.root c.in_ok-below.below.levels c.low_bound-low.result c.high_bound-high.result c.in-Some-child_within.child) (same_pages _ _ inv.stays) (c.in_ok-below.ensures.tree now)) in
          let later = step_branch _ _ _ _ _ _ _ _ _ all c.loop-i.i in_count c.in-Some-child_within.child c.low_bound-low.result c.high_bound-high.result kid.0
          (kid.1, subst (λ (h : Header). c.in-Some-child_within.child ≤ h.pages) header kid.2)
          c.low_bound-low.ensures.first (λ k. c.low_bound-low.ensures.inner (c.header-header.result.pages * c.header-header.result.page_size) k all.cells) (c.high_bound-high.ensures.inner (c.header-header.result.pages * c.header-header.result.page_size) all.cells) c.high_bound-high.ensures.last
          c.join-counts.result.levels tree in
          more_branches _ _ _ _ _ _ all.met c.loop-i.i c.loop-i.counts.levels c.join-counts.result.levels same (inv.branches steady) later;
      held = λ steady.
          let now = still_steady _ _ inv.stays steady in
          let at : c.in-Some-child_within.child ≡ child_at (pages_seen c.args.pager.now.state) c.args.n c.loop-i.i =
          let all = inner c.args.pager.now.state c.header-header.result c.header-header.ensures.is c.header-header.ensures.sound c.args.n c.in_ok-page.page
          (c.in_ok-page.ensures.outcome.is steady) c.in_ok-page.ensures.outcome.long c.args.table.now.root c.args.depth c.args.low c.args.high (c.requires.met steady)
          c.in-Some.view c.in-Some.ensures.found.0.is c.in-Some.ensures.found.0.header c.in_ok-level.ensures.head interior in
          seen_child _ _ _ _ _ all.seen c.loop-i.i c.in-Some-child_within.child kid.0 in
          let under = subst (λ (p : Pages). All (HoldsRow p c.args.table.now) (places_under p Table c.in_ok-below.below.levels c.in-Some-child_within.child)) (same_pages _ _ inv.stays) (c.in_ok-below.ensures.rows now) in
          let here = subst (λ (l : ℕ). All (HoldsRow (pages_seen c.args.pager.now.state) c.args.table.now) (places_under (pages_seen c.args.pager.now.state) Table l (child_at (pages_seen c.args.pager.now.state) c.args.n c.loop-i.i))) (sym levels)
          (subst (λ (m : ℕ). All (HoldsRow (pages_seen c.args.pager.now.state) c.args.table.now) (places_under (pages_seen c.args.pager.now.state) Table c.in_ok-below.below.levels m)) at under) in
          held_more (pages_seen c.args.pager.now.state) c.args.table.now c.args.n c.loop-i.i c.loop-i.counts.levels c.join-counts.result.levels same (inv.held steady) here;
      rows = λ steady.
          let now = still_steady _ _ inv.stays steady in
          let all = inner c.args.pager.now.state c.header-header.result c.header-header.ensures.is c.header-header.ensures.sound c.args.n c.in_ok-page.page
          (c.in_ok-page.ensures.outcome.is steady) c.in_ok-page.ensures.outcome.long c.args.table.now.root c.args.depth c.args.low c.args.high (c.requires.met steady)
          c.in-Some.view c.in-Some.ensures.found.0.is c.in-Some.ensures.found.0.header c.in_ok-level.ensures.head interior in
          let under = subst (λ (p : Pages). AreCounts p Table c.in_ok-below.below.levels c.in-Some-child_within.child c.in_ok-below.below.cells c.in_ok-below.below.pages) (same_pages _ _ inv.stays) (c.in_ok-below.ensures.counts now) in
          let at = subst (λ (l : ℕ). AreCounts (pages_seen c.args.pager.now.state) Table l (child_at (pages_seen c.args.pager.now.state) c.args.n c.loop-i.i) c.in_ok-below.below.cells c.in_ok-below.below.pages) (sym levels)
          (step_under _ _ _ _ _ _ _ _ _ all c.loop-i.i in_count c.in-Some-child_within.child c.low_bound-low.result c.high_bound-high.result kid.0
          (kid.1, subst (λ (h : Header). c.in-Some-child_within.child ≤ h.pages) header kid.2)
          c.low_bound-low.ensures.first (λ k. c.low_bound-low.ensures.inner (c.header-header.result.pages * c.header-header.result.page_size) k all.cells) (c.high_bound-high.ensures.inner (c.header-header.result.pages * c.header-header.result.page_size) all.cells) c.high_bound-high.ensures.last
          c.in_ok-below.below.levels c.in_ok-below.below.cells c.in_ok-below.below.pages under) in
          cells_step (pages_seen c.args.pager.now.state) Table c.args.n c.loop-i.i c.loop-i.counts.levels c.join-counts.result.levels same _ _ _ (inv.rows steady) at.cells_is c.join-counts.ensures.cells;
      size = λ steady.
          let now = still_steady _ _ inv.stays steady in
          let all = inner c.args.pager.now.state c.header-header.result c.header-header.ensures.is c.header-header.ensures.sound c.args.n c.in_ok-page.page
          (c.in_ok-page.ensures.outcome.is steady) c.in_ok-page.ensures.outcome.long c.args.table.now.root c.args.depth c.args.low c.args.high (c.requires.met steady)
          c.in-Some.view c.in-Some.ensures.found.0.is c.in-Some.ensures.found.0.header c.in_ok-level.ensures.head interior in
          let under = subst (λ (p : Pages). AreCounts p Table c.in_ok-below.below.levels c.in-Some-child_within.child c.in_ok-below.below.cells c.in_ok-below.below.pages) (same_pages _ _ inv.stays) (c.in_ok-below.ensures.counts now) in
          let at = subst (λ (l : ℕ). AreCounts (pages_seen c.args.pager.now.state) Table l (child_at (pages_seen c.args.pager.now.state) c.args.n c.loop-i.i) c.in_ok-below.below.cells c.in_ok-below.below.pages) (sym levels)
          (step_under _ _ _ _ _ _ _ _ _ all c.loop-i.i in_count c.in-Some-child_within.child c.low_bound-low.result c.high_bound-high.result kid.0
          (kid.1, subst (λ (h : Header). c.in-Some-child_within.child ≤ h.pages) header kid.2)
          c.low_bound-low.ensures.first (λ k. c.low_bound-low.ensures.inner (c.header-header.result.pages * c.header-header.result.page_size) k all.cells) (c.high_bound-high.ensures.inner (c.header-header.result.pages * c.header-header.result.page_size) all.cells) c.high_bound-high.ensures.last
          c.in_ok-below.below.levels c.in_ok-below.below.cells c.in_ok-below.below.pages under) in
          size_step (pages_seen c.args.pager.now.state) Table c.args.n c.loop-i.i c.loop-i.counts.levels c.join-counts.result.levels same _ _ _ (inv.size steady) at.size_is c.join-counts.ensures.pages;
      marks = λ steady.
          let now = still_steady _ _ inv.stays steady in
          let all = inner c.args.pager.now.state c.header-header.result c.header-header.ensures.is c.header-header.ensures.sound c.args.n c.in_ok-page.page
          (c.in_ok-page.ensures.outcome.is steady) c.in_ok-page.ensures.outcome.long c.args.table.now.root c.args.depth c.args.low c.args.high (c.requires.met steady)
          c.in-Some.view c.in-Some.ensures.found.0.is c.in-Some.ensures.found.0.header c.in_ok-level.ensures.head interior in
          let at = seen_child _ _ _ _ _ all.seen c.loop-i.i c.in-Some-child_within.child kid.0 in
          children_more (pages_seen c.args.pager.now.state) c.args.table.now.root c.args.n c.loop-i.i c.loop-i.counts.levels c.args.used.now c.loop-i.used
          (inv.marks steady) all.page_is (c.args.depth, all.met.stands) c.in-Some-child_within.child at
          (here_within _ _ _ _ _ _ _ _ _ all c.loop-i.i in_count)
          (kid.1, subst (λ (h : Header). c.in-Some-child_within.child ≤ h.pages) header kid.2)
          c.walk.new.used c.join-counts.result.levels same
          (subst (λ (l : ℕ). MarksUnder (pages_seen c.args.pager.now.state) (table_tree c.args.table.now.root) l c.in-Some-child_within.child c.loop-i.used c.walk.new.used) (sym levels)
          (subst (λ (p : Pages). MarksUnder p (table_tree c.args.table.now.root) c.in_ok-below.below.levels c.in-Some-child_within.child c.loop-i.used c.walk.new.used) (same_pages _ _ inv.stays)
          (c.in_ok-below.ensures.marks now)));
    }

pub returns-clause-tree : goal.returns-clause-tree
returns-clause-tree g t c = λ steady.
    let inv = c.loop-i.invariant in
    let interior : c.in-Some.view.level ≡ Interior = search rules in
    let end : c.loop-i.i ≡ cell_count c.in-Some.view.at c.in-Some.view.page + 1 = search rules in
    let all = inner c.args.pager.now.state c.header-header.result c.header-header.ensures.is c.header-header.ensures.sound c.args.n c.in_ok-page.page
    (c.in_ok-page.ensures.outcome.is steady) c.in_ok-page.ensures.outcome.long c.args.table.now.root c.args.depth c.args.low c.args.high (c.requires.met steady)
    c.in-Some.view c.in-Some.ensures.found.0.is c.in-Some.ensures.found.0.header c.in_ok-level.ensures.head interior in
    rw add-one (inner_tree _ _ _ _ _ _ _ _ _ all c.loop-i.i c.loop-i.counts.levels end (inv.branches steady))

pub returns-clause-counts : goal.returns-clause-counts
returns-clause-counts g t c = λ steady.
    let inv = c.loop-i.invariant in
    let interior : c.in-Some.view.level ≡ Interior = search rules in
    let end : c.loop-i.i ≡ cell_count c.in-Some.view.at c.in-Some.view.page + 1 = search rules in
    let all = inner c.args.pager.now.state c.header-header.result c.header-header.ensures.is c.header-header.ensures.sound c.args.n c.in_ok-page.page
    (c.in_ok-page.ensures.outcome.is steady) c.in_ok-page.ensures.outcome.long c.args.table.now.root c.args.depth c.args.low c.args.high (c.requires.met steady)
    c.in-Some.view c.in-Some.ensures.found.0.is c.in-Some.ensures.found.0.header c.in_ok-level.ensures.head interior in
    let done = end_is _ _ _ _ _ _ _ _ _ all c.loop-i.i c.loop-i.counts.levels end in
    rw add-one (record {
      cells_is = inv.rows steady ∙ ap counted (cells_all (pages_seen c.args.pager.now.state) Table c.args.n c.loop-i.counts.levels c.loop-i.i done);
      size_is = inv.size steady ∙ ap counted (size_all (pages_seen c.args.pager.now.state) Table c.args.n c.loop-i.counts.levels c.loop-i.i done);
    })

pub check_rows-requires-clause-cells : goal.check_rows-requires-clause-cells
check_rows-requires-clause-cells g t c =
    let leaf : c.in-Some.view.level ≡ Leaf = sym c.in_ok-level.ensures.level ∙ search rules in
    subst (λ (l : Level). HasCells c.in-Some.view.at (c.header-header.result.pages * c.header-header.result.page_size) c.in-Some.view.page l) leaf c.in_ok-level.ensures.head.cells

pub returns-in_err-check_rows-clause-fault : goal.returns-in_err-check_rows-clause-fault
returns-in_err-check_rows-clause-fault g t c = λ steady.
    let read = c.page.ensures.reads.image in
    let leaf : c.in-Some.view.level ≡ Leaf = sym c.in_ok-level.ensures.level ∙ search rules in
    let met = c.requires.met steady in
    let seen = see c.args.pager.now.state c.header-header.result c.header-header.ensures.is c.header-header.ensures.sound c.args.n c.in_ok-page.page
    (c.in_ok-page.ensures.outcome.is steady) c.in_ok-page.ensures.outcome.long c.args.table.now.root c.args.depth c.args.low c.args.high met
    c.in-Some.view c.in-Some.ensures.found.0.is c.in-Some.ensures.found.0.header in
    let tree = leaf_tree c.args.pager.now.state c.header-header.result c.header-header.ensures.is c.header-header.ensures.sound c.args.n c.in_ok-page.page
    (c.in_ok-page.ensures.outcome.is steady) c.in_ok-page.ensures.outcome.long c.args.table.now.root c.args.depth c.args.low c.args.high met
    c.in-Some.view c.in-Some.ensures.found.0.is c.in-Some.ensures.found.0.header c.in_ok-level.ensures.head leaf in
    let p = err_from_is_err_and c.from_residual-in_err-check_rows.result c.from_residual-in_err-check_rows.ensures.1 in
    rw (p.1, p.2)
    (⊎_elim inl
    (λ cause. inr (⊎_elim
    (λ (broken : IsLeafFault (pages_seen c.page.new.self.state) c.args.table.now c.args.n c.in-Some.view.at (c.header-header.result.pages * c.header-header.result.page_size) c.in-Some.view.page c.in_err-check_rows.field-0.0).
    inl (inr (leaf_fault (pages_seen c.args.pager.now.state) c.args.table.now c.args.n _ _ _ seen c.args.depth tree.0 met.stands _
    (subst (λ (p : Pages). IsLeafFault p c.args.table.now c.args.n c.in-Some.view.at (c.header-header.result.pages * c.header-header.result.page_size) c.in-Some.view.page c.in_err-check_rows.field-0.0) (same_pages _ _ read) broken))))
    (λ (twice : IsRowTwice (pages_seen c.page.new.self.state) c.args.table.now.root c.args.n c.in-Some.view.at (c.header-header.result.pages * c.header-header.result.page_size) c.in-Some.view.page c.use_page.new.used c.in_err-check_rows.field-0.0).
    inr (row_twice (pages_seen c.args.pager.now.state) c.args.table.now.root c.args.n c.args.used.now c.use_page.new.used c.in_ok-use_page.ensures.blank (c.in_ok-use_page.ensures.marks (pages_seen c.args.pager.now.state))
    tree.0 (c.args.depth, met.stands) _ _ _ seen _
    (subst (λ (p : Pages). IsRowTwice p c.args.table.now.root c.args.n c.in-Some.view.at (c.header-header.result.pages * c.header-header.result.page_size) c.in-Some.view.page c.use_page.new.used c.in_err-check_rows.field-0.0) (same_pages _ _ read) twice)))
    cause))
    (c.in_err-check_rows.ensures.fault (still_steady _ _ read steady)))

pub returns-then-eq-clause-rows : goal.returns-then-eq-clause-rows
returns-then-eq-clause-rows g t c = λ steady.
    let read = c.page.ensures.reads.image in
    let seen = see c.args.pager.now.state c.header-header.result c.header-header.ensures.is c.header-header.ensures.sound c.args.n c.in_ok-page.page
    (c.in_ok-page.ensures.outcome.is steady) c.in_ok-page.ensures.outcome.long c.args.table.now.root c.args.depth c.args.low c.args.high (c.requires.met steady)
    c.in-Some.view c.in-Some.ensures.found.0.is c.in-Some.ensures.found.0.header in
    let rows = subst (λ (p : Pages). AreRowsIn p c.args.table.now c.in-Some.view.at (c.header-header.result.pages * c.header-header.result.page_size) c.in-Some.view.page) (same_pages _ _ read)
    (c.in_ok-check_rows.ensures.rows (still_steady _ _ read steady)) in
    subst (λ (counts : TreeCounts). All (HoldsRow (pages_seen c.args.pager.now.state) c.args.table.now) (places_under (pages_seen c.args.pager.now.state) Table counts.levels c.args.n)) (sym c.counts_of_page-then-eq.ensures)
    (held_leaf (pages_seen c.args.pager.now.state) c.args.table.now c.args.n _ _ _ seen rows)

pub returns-clause-rows : goal.returns-clause-rows
returns-clause-rows g t c = λ steady.
    let inv = c.loop-i.invariant in
    let interior : c.in-Some.view.level ≡ Interior = search rules in
    let end : c.loop-i.i ≡ cell_count c.in-Some.view.at c.in-Some.view.page + 1 = search rules in
    let all = inner c.args.pager.now.state c.header-header.result c.header-header.ensures.is c.header-header.ensures.sound c.args.n c.in_ok-page.page
    (c.in_ok-page.ensures.outcome.is steady) c.in_ok-page.ensures.outcome.long c.args.table.now.root c.args.depth c.args.low c.args.high (c.requires.met steady)
    c.in-Some.view c.in-Some.ensures.found.0.is c.in-Some.ensures.found.0.header c.in_ok-level.ensures.head interior in
    let done = end_is _ _ _ _ _ _ _ _ _ all c.loop-i.i c.loop-i.counts.levels end in
    rw add-one (held_under (pages_seen c.args.pager.now.state) c.args.table.now c.loop-i.counts.levels c.args.n
    (λ k within. inv.held steady k (omega (arith, within, done))))

pub loop-i-init : goal.loop-i-init
loop-i-init g t c = record {
  stays = search rules;
  failures = search rules;
  shallow = search rules;
  branches = search rules;
  held = search rules;
  rows = search rules;
  size = search rules;
  marks = λ steady. children_none (pages_seen c.args.pager.now.state) c.args.table.now.root c.args.n c.args.used.now c.use_page.new.used
      c.in_ok-use_page.ensures.blank (c.in_ok-use_page.ensures.marks (pages_seen c.args.pager.now.state)) c.counts_of_page-counts.result.levels;
}

pub returns-in_err-use_page-clause-fault : goal.returns-in_err-use_page-clause-fault
returns-in_err-use_page-clause-fault g t c = λ steady.
    let p = err_from_is_err_and c.from_residual.result c.from_residual.ensures.1 in
    rw (p.1, p.2)
    (inr (inr (marked_twice (pages_seen c.args.pager.now.state) (table_tree c.args.table.now.root) c.args.n c.args.used.now
    (c.in_err-use_page.ensures.twice (pages_seen c.args.pager.now.state)) c.in_err-use_page.field-0.0 c.in_err-use_page.ensures.fault)))

pub returns-then-is_leaf_of_rows-clause-marks : goal.returns-then-is_leaf_of_rows-clause-marks
returns-then-is_leaf_of_rows-clause-marks g t c = λ steady.
    let pages = pages_seen c.args.pager.now.state in
    let leaf = c.is_leaf_of_rows.ensures.leaf c.if-is_leaf_of_rows.true in
    let head = subst (λ (l : Level). IsHead c.in-Some.view.at (c.header-header.result.pages * c.header-header.result.page_size) c.in-Some.view.page l c.args.table.now.root c.args.n c.args.low c.args.high) (sym leaf)
    (c.is_leaf_of_rows.ensures.head c.if-is_leaf_of_rows.true) in
    let seen = see c.args.pager.now.state c.header-header.result c.header-header.ensures.is c.header-header.ensures.sound c.args.n c.in_ok-page.page
    (c.in_ok-page.ensures.outcome.is steady) c.in_ok-page.ensures.outcome.long c.args.table.now.root c.args.depth c.args.low c.args.high (c.requires.met steady)
    c.in-Some.view c.in-Some.ensures.found.0.is c.in-Some.ensures.found.0.header in
    let tree = leaf_tree c.args.pager.now.state c.header-header.result c.header-header.ensures.is c.header-header.ensures.sound c.args.n c.in_ok-page.page
    (c.in_ok-page.ensures.outcome.is steady) c.in_ok-page.ensures.outcome.long c.args.table.now.root c.args.depth c.args.low c.args.high (c.requires.met steady)
    c.in-Some.view c.in-Some.ensures.found.0.is c.in-Some.ensures.found.0.header head leaf in
    subst (λ (counts : TreeCounts). MarksUnder pages (table_tree c.args.table.now.root) counts.levels c.args.n c.args.used.now c.use_page.new.used) (sym c.counts_of_page.ensures)
    (leaf_plain pages c.args.table.now.root c.args.n c.args.used.now c.use_page.new.used c.in_ok-use_page.ensures.blank (c.in_ok-use_page.ensures.marks pages) tree.0 (c.args.depth, (c.requires.met steady).stands)
    (λ users. no_links_in pages users c.args.table.now c.args.n _ _ _ seen tree.0 (c.is_leaf_of_rows.ensures.rows c.if-is_leaf_of_rows.true)))

pub returns-then-eq-clause-marks : goal.returns-then-eq-clause-marks
returns-then-eq-clause-marks g t c = λ steady.
    let pages = pages_seen c.args.pager.now.state in
    let read = c.page.ensures.reads.image in
    let leaf : c.in-Some.view.level ≡ Leaf = sym c.in_ok-level.ensures.level ∙ search rules in
    let met = c.requires.met steady in
    let seen = see c.args.pager.now.state c.header-header.result c.header-header.ensures.is c.header-header.ensures.sound c.args.n c.in_ok-page.page
    (c.in_ok-page.ensures.outcome.is steady) c.in_ok-page.ensures.outcome.long c.args.table.now.root c.args.depth c.args.low c.args.high met
    c.in-Some.view c.in-Some.ensures.found.0.is c.in-Some.ensures.found.0.header in
    let tree = leaf_tree c.args.pager.now.state c.header-header.result c.header-header.ensures.is c.header-header.ensures.sound c.args.n c.in_ok-page.page
    (c.in_ok-page.ensures.outcome.is steady) c.in_ok-page.ensures.outcome.long c.args.table.now.root c.args.depth c.args.low c.args.high met
    c.in-Some.view c.in-Some.ensures.found.0.is c.in-Some.ensures.found.0.header c.in_ok-level.ensures.head leaf in
    let rows = subst (λ (p : Pages). MarksRows p c.args.table.now.root c.args.n c.in-Some.view.at (c.header-header.result.pages * c.header-header.result.page_size) c.in-Some.view.page c.use_page.new.used c.check_rows.new.used) (same_pages _ _ read)
    (c.in_ok-check_rows.ensures.marks (still_steady _ _ read steady)) in
    subst (λ (counts : TreeCounts). MarksUnder pages (table_tree c.args.table.now.root) counts.levels c.args.n c.args.used.now c.check_rows.new.used) (sym c.counts_of_page-then-eq.ensures)
    (leaf_linked pages c.args.table.now.root c.args.n c.args.used.now c.use_page.new.used c.in_ok-use_page.ensures.blank (c.in_ok-use_page.ensures.marks pages) tree.0
    (c.args.depth, met.stands) _ _ _ seen c.check_rows.new.used rows)

pub returns-in_err-below-clause-fault : goal.returns-in_err-below-clause-fault
returns-in_err-below-clause-fault g t c = λ steady.
    let inv = c.loop-i.invariant in
    let header : c.header-header.result ≡ c.args.pager.now.state.header = c.header-header.ensures.is in
    let kid = c.in-Some-child_within.ensures.found in
    let now = still_steady _ _ inv.stays steady in
    let interior : c.in-Some.view.level ≡ Interior = search rules in
    let in_count : c.loop-i.i ≤ cell_count c.in-Some.view.at c.in-Some.view.page = search rules in
    let all = inner c.args.pager.now.state c.header-header.result c.header-header.ensures.is c.header-header.ensures.sound c.args.n c.in_ok-page.page
    (c.in_ok-page.ensures.outcome.is steady) c.in_ok-page.ensures.outcome.long c.args.table.now.root c.args.depth c.args.low c.args.high (c.requires.met steady)
    c.in-Some.view c.in-Some.ensures.found.0.is c.in-Some.ensures.found.0.header c.in_ok-level.ensures.head interior in
    let at = seen_child _ _ _ _ _ all.seen c.loop-i.i c.in-Some-child_within.child kid.0 in
    let p = err_from_is_err_and c.from_residual-in_err-below.result c.from_residual-in_err-below.ensures.1 in
    rw (p.1, p.2)
    (⊎_elim inl
    (λ cause. inr (⊎_elim
    (λ (broken : IsBrokenTable (pages_seen c.loop-i.pager.state) c.args.table.now c.in_err-below.field-0.0).
    inl (subst (λ (p : Pages). IsBrokenTable p c.args.table.now c.in_err-below.field-0.0) (same_pages _ _ inv.stays) broken))
    (λ (twice : IsUnderTwice (pages_seen c.loop-i.pager.state) (table_tree c.args.table.now.root) c.in-Some-child_within.child c.loop-i.used c.in_err-below.field-0.0).
    inr (child_twice (pages_seen c.args.pager.now.state) c.args.table.now.root c.args.n c.loop-i.i c.loop-i.counts.levels c.args.used.now c.loop-i.used
    (inv.marks steady) all.page_is (c.args.depth, all.met.stands) c.in-Some-child_within.child at
    (here_within _ _ _ _ _ _ _ _ _ all c.loop-i.i in_count)
    (kid.1, subst (λ (h : Header). c.in-Some-child_within.child ≤ h.pages) header kid.2) _
    (subst (λ (p : Pages). IsUnderTwice p (table_tree c.args.table.now.root) c.in-Some-child_within.child c.loop-i.used c.in_err-below.field-0.0) (same_pages _ _ inv.stays) twice)))
    cause))
    (c.in_err-below.ensures.fault now))

pub returns-clause-marks : goal.returns-clause-marks
returns-clause-marks g t c = λ steady.
    let inv = c.loop-i.invariant in
    let interior : c.in-Some.view.level ≡ Interior = search rules in
    let end : c.loop-i.i ≡ cell_count c.in-Some.view.at c.in-Some.view.page + 1 = search rules in
    let all = inner c.args.pager.now.state c.header-header.result c.header-header.ensures.is c.header-header.ensures.sound c.args.n c.in_ok-page.page
    (c.in_ok-page.ensures.outcome.is steady) c.in_ok-page.ensures.outcome.long c.args.table.now.root c.args.depth c.args.low c.args.high (c.requires.met steady)
    c.in-Some.view c.in-Some.ensures.found.0.is c.in-Some.ensures.found.0.header c.in_ok-level.ensures.head interior in
    let done = end_is _ _ _ _ _ _ _ _ _ all c.loop-i.i c.loop-i.counts.levels end in
    rw add-one (children_all (pages_seen c.args.pager.now.state) c.args.table.now.root c.args.n c.loop-i.i c.loop-i.counts.levels c.args.used.now c.loop-i.used
    (inv.marks steady) all.page_is (c.args.depth, all.met.stands) done)
