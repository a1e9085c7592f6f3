use Rattle.std.proofs.Common.{◌≡◌, ◌∙◌, ◌+◌, ◌-◌, ◌<◌, ◌≤◌, ℕ, suc, ap, arith, below_more, rules, subst, sym}
use Rattle.std.proofs.lemmas.Result.{err_from_is_err_and}
use Rattle.std.specs.Prelude.{MatchResult}
use Rattle.pager.specs.declared.header.Header.{Header}
use Rattle.pager.specs.Calls.{IsReadFault}
use Rattle.pager.proofs.CallLemmas.{SameImage-trans}
use Rattle.btree.specs.declared.image.kind.TreeKind.TheVariants.{Index}
use Rattle.btree.specs.declared.image.kind.Level.{Level}
use Rattle.btree.specs.declared.image.kind.Level.TheVariants.{Leaf, Interior}
use Rattle.btree.specs.image.Layout.{HasHeaderAt, cell_count, header_at}
use Rattle.btree.specs.image.Pages.{Pages, pages_seen}
use Rattle.btree.specs.image.Shape.{own_places, places_in, places_under}
use Rattle.btree.specs.image.Tree.{child_at, count_at}
use Rattle.btree.proofs.SeenLemmas.{same_pages, still_steady}
use Rattle.btree_cursor.specs.index_entries.Entries.{AreValuesOf, IsViewIn}
use Rattle.btree_cursor.proofs.lemmas.index_entries.EntryLemmas.{count_is}
use Rattle.integrity_trees.proofs.lemmas.index_walk.SeenLemmas.{no_child, seen_in, view_child, view_within}
use Rattle.integrity_indexes.specs.index_batches.Trees.{AllPlaced, HasAstray, IsTreePage, TellsAll}
use Rattle.integrity_indexes.proofs.lemmas.index_batches.TreeLemmas.{behind_astray, branch_placed, child_page, header_read, height_of, leaf_height, none_read, page_placed, under_astray, values_here}
use Rattle.integrity_indexes.proofs.index_batches.tree.+is_placed_under.Goals as goal

pub returns-in_default-clause-placed : goal.returns-in_default-clause-placed
returns-in_default-clause-placed g t c = λ steady values root height is less.
    absurd (none_read c.args.pager.now.state c.header-header.result c.header-header.ensures c.args.n _ c.in_ok-page.ensures.outcome steady height is.shape c.in_default.ensures.none)

pub returns-then-is_leaf-clause-placed : goal.returns-then-is_leaf-clause-placed
returns-then-is_leaf-clause-placed g t c = λ steady values root height is less.
    let seen = pages_seen c.args.pager.now.state in
    let view = c.in-Some.view in
    let of = c.in-Some.ensures.found.0 in
    let inside = seen_in c.args.pager.now.state c.header-header.result c.header-header.ensures c.args.n _ c.in_ok-page.ensures.outcome steady view of in
    let header = header_read c.args.pager.now.state c.header-header.result c.header-header.ensures c.args.n _ c.in_ok-page.ensures.outcome steady view of in
    let leaf : view.level ≡ Leaf = c.is_leaf.ensures.leaf c.if-is_leaf.true in
    let low = leaf_height seen height c.args.n is.shape (subst (λ (l : Level). HasHeaderAt (header_at c.args.n) Index l (seen.page c.args.n)) leaf header) in
    let read = c.page.ensures.reads.image in
    let same = same_pages _ _ read in
    let s = c.args.sought.now in
    let told = c.is_leaf_placed.ensures.placed (still_steady _ _ read steady) values
    (subst (λ (p : Pages). IsViewIn p c.args.n view) (sym same) inside)
    (subst (λ (p : Pages). AreValuesOf p values view.level c.args.n) (sym same) (values_here seen values root height c.args.n is view.level header)) in
    subst (λ (h : ℕ). MatchResult c.is_leaf_placed.result (TellsAll s.batch.now s.above s.most s.columns values (places_under seen Index h c.args.n)) IsReadFault) (sym low)
    (subst (λ (p : Pages). MatchResult c.is_leaf_placed.result (TellsAll s.batch.now s.above s.most s.columns values (places_in p c.args.n)) IsReadFault) same told)

pub returns-in_default-child_within-clause-placed : goal.returns-in_default-child_within-clause-placed
returns-in_default-child_within-clause-placed g t c = λ steady values root height is less.
    let seen = pages_seen c.args.pager.now.state in
    let view = c.in-Some.view in
    let of = c.in-Some.ensures.found.0 in
    let inside = seen_in c.args.pager.now.state c.header-header.result c.header-header.ensures c.args.n _ c.in_ok-page.ensures.outcome steady view of in
    let header = header_read c.args.pager.now.state c.header-header.result c.header-header.ensures c.args.n _ c.in_ok-page.ensures.outcome steady view of in
    let interior : view.level ≡ Interior = c.is_leaf.ensures.interior c.if-is_leaf.false in
    let below = height_of seen height c.args.n is.shape (subst (λ (l : Level). HasHeaderAt (header_at c.args.n) Index l (seen.page c.args.n)) interior header) in
    let here = subst (λ (h : ℕ). IsTreePage seen values root h c.args.n) below.1 is in
    let in_count : c.loop-i.i ≤ cell_count view.at view.page = search rules in
    let within = view_within seen c.args.n view inside c.loop-i.i in_count in
    let count : c.header-header.result.pages ≡ c.args.pager.now.state.header.pages = ap (λ (h : Header). h.pages) c.header-header.ensures.is in
    absurd (no_child seen c.args.n view inside c.loop-i.i c.header-header.result.pages count here.shape.0 c.in_default-child_within.ensures.none (here.shape.1 c.loop-i.i within).0)

pub returns-in_err-is_placed_under-clause-placed : goal.returns-in_err-is_placed_under-clause-placed
returns-in_err-is_placed_under-clause-placed g t c = λ steady values root height is less.
    let inv = c.loop-i.invariant in
    let seen = pages_seen c.args.pager.now.state in
    let view = c.in-Some.view in
    let of = c.in-Some.ensures.found.0 in
    let inside = seen_in c.args.pager.now.state c.header-header.result c.header-header.ensures c.args.n _ c.in_ok-page.ensures.outcome steady view of in
    let header = header_read c.args.pager.now.state c.header-header.result c.header-header.ensures c.args.n _ c.in_ok-page.ensures.outcome steady view of in
    let interior : view.level ≡ Interior = c.is_leaf.ensures.interior c.if-is_leaf.false in
    let below = height_of seen height c.args.n is.shape (subst (λ (l : Level). HasHeaderAt (header_at c.args.n) Index l (seen.page c.args.n)) interior header) in
    let here = subst (λ (h : ℕ). IsTreePage seen values root h c.args.n) below.1 is in
    let in_count : c.loop-i.i ≤ cell_count view.at view.page = search rules in
    let within = view_within seen c.args.n view inside c.loop-i.i in_count in
    let kid = c.in-Some-child_within.ensures.found in
    let child = child_page seen values root below.0 c.args.n c.loop-i.i c.in-Some-child_within.child here within (view_child seen c.args.n view inside c.loop-i.i c.in-Some-child_within.child kid.0) in
    let p = err_from_is_err_and c.from_residual-in_err-is_placed_under.result c.from_residual-in_err-is_placed_under.ensures.1 in
    rw (p.1, p.2)
    (c.in_err-is_placed_under.ensures.placed (still_steady _ _ inv.stays steady) values root below.0
    (subst (λ (q : Pages). IsTreePage q values root below.0 c.in-Some-child_within.child) (sym (same_pages _ _ inv.stays)) child) (omega (arith, less, below.1)))

pub returns-then-not-branch-clause-placed : goal.returns-then-not-branch-clause-placed
returns-then-not-branch-clause-placed g t c = λ steady values root height is less.
    let inv = c.loop-i.invariant in
    let seen = pages_seen c.args.pager.now.state in
    let view = c.in-Some.view in
    let of = c.in-Some.ensures.found.0 in
    let inside = seen_in c.args.pager.now.state c.header-header.result c.header-header.ensures c.args.n _ c.in_ok-page.ensures.outcome steady view of in
    let header = header_read c.args.pager.now.state c.header-header.result c.header-header.ensures c.args.n _ c.in_ok-page.ensures.outcome steady view of in
    let interior : view.level ≡ Interior = c.is_leaf.ensures.interior c.if-is_leaf.false in
    let below = height_of seen height c.args.n is.shape (subst (λ (l : Level). HasHeaderAt (header_at c.args.n) Index l (seen.page c.args.n)) interior header) in
    let here = subst (λ (h : ℕ). IsTreePage seen values root h c.args.n) below.1 is in
    let in_count : c.loop-i.i ≤ cell_count view.at view.page = search rules in
    let within = view_within seen c.args.n view inside c.loop-i.i in_count in
    let kid = c.in-Some-child_within.ensures.found in
    let child_is = view_child seen c.args.n view inside c.loop-i.i c.in-Some-child_within.child kid.0 in
    let child = child_page seen values root below.0 c.args.n c.loop-i.i c.in-Some-child_within.child here within child_is in
    let s = c.args.sought.now in
    let told = c.in_ok-is_placed_under.ensures.placed (still_steady _ _ inv.stays steady) values root below.0
    (subst (λ (q : Pages). IsTreePage q values root below.0 c.in-Some-child_within.child) (sym (same_pages _ _ inv.stays)) child) (omega (arith, less, below.1)) in
    let out : HasAstray s.batch.now s.above s.most s.columns values (places_under seen Index below.0 (child_at seen c.args.n c.loop-i.i)) =
    subst (λ (q : Pages). HasAstray s.batch.now s.above s.most s.columns values (places_under q Index below.0 (child_at seen c.args.n c.loop-i.i))) (same_pages _ _ inv.stays)
    (subst (λ (m : ℕ). HasAstray s.batch.now s.above s.most s.columns values (places_under (pages_seen c.loop-i.pager.state) Index below.0 m)) child_is (rw c.if-not-branch.true at told)) in
    subst (λ (h : ℕ). HasAstray s.batch.now s.above s.most s.columns values (places_under seen Index h c.args.n)) (sym below.1)
    (under_astray s.batch.now s.above s.most s.columns values seen below.0 c.args.n c.loop-i.i within out)

pub returns-in_err-is_own_placed-clause-placed : goal.returns-in_err-is_own_placed-clause-placed
returns-in_err-is_own_placed-clause-placed g t c = λ steady values root height is less.
    let inv = c.loop-i.invariant in
    let seen = pages_seen c.args.pager.now.state in
    let view = c.in-Some.view in
    let of = c.in-Some.ensures.found.0 in
    let inside = seen_in c.args.pager.now.state c.header-header.result c.header-header.ensures c.args.n _ c.in_ok-page.ensures.outcome steady view of in
    let header = header_read c.args.pager.now.state c.header-header.result c.header-header.ensures c.args.n _ c.in_ok-page.ensures.outcome steady view of in
    let then = SameImage-trans _ _ _ inv.stays c.is_placed_under.ensures.reads.image in
    let same = sym (same_pages _ _ then) in
    let p = err_from_is_err_and c.from_residual-in_err-is_own_placed.result c.from_residual-in_err-is_own_placed.ensures.1 in
    rw (p.1, p.2)
    (c.in_err-is_own_placed.ensures.placed (still_steady _ _ then steady) values (subst (λ (q : Pages). IsViewIn q c.args.n view) same inside)
    (subst (λ (q : Pages). AreValuesOf q values view.level c.args.n) same (values_here seen values root height c.args.n is view.level header)))

pub returns-then-not-branch-2-clause-placed : goal.returns-then-not-branch-2-clause-placed
returns-then-not-branch-2-clause-placed g t c = λ steady values root height is less.
    let inv = c.loop-i.invariant in
    let seen = pages_seen c.args.pager.now.state in
    let view = c.in-Some.view in
    let of = c.in-Some.ensures.found.0 in
    let inside = seen_in c.args.pager.now.state c.header-header.result c.header-header.ensures c.args.n _ c.in_ok-page.ensures.outcome steady view of in
    let header = header_read c.args.pager.now.state c.header-header.result c.header-header.ensures c.args.n _ c.in_ok-page.ensures.outcome steady view of in
    let interior : view.level ≡ Interior = c.is_leaf.ensures.interior c.if-is_leaf.false in
    let below = height_of seen height c.args.n is.shape (subst (λ (l : Level). HasHeaderAt (header_at c.args.n) Index l (seen.page c.args.n)) interior header) in
    let in_count : c.loop-i.i ≤ cell_count view.at view.page = search rules in
    let within = view_within seen c.args.n view inside c.loop-i.i in_count in
    let then = SameImage-trans _ _ _ inv.stays c.is_placed_under.ensures.reads.image in
    let same = same_pages _ _ then in
    let s = c.args.sought.now in
    let told = c.in_ok-is_own_placed.ensures.placed (still_steady _ _ then steady) values (subst (λ (q : Pages). IsViewIn q c.args.n view) (sym same) inside)
    (subst (λ (q : Pages). AreValuesOf q values view.level c.args.n) (sym same) (values_here seen values root height c.args.n is view.level header)) in
    let out = subst (λ (q : Pages). HasAstray s.batch.now s.above s.most s.columns values (own_places q c.args.n c.loop-i.i)) same (rw c.if-not-branch-2.true at told) in
    subst (λ (h : ℕ). HasAstray s.batch.now s.above s.most s.columns values (places_under seen Index h c.args.n)) (sym below.1)
    (behind_astray s.batch.now s.above s.most s.columns values seen below.0 c.args.n c.loop-i.i within out)

pub loop-i-preserved : goal.loop-i-preserved
loop-i-preserved g t c =
    let inv = c.loop-i.invariant in
    let then = SameImage-trans _ _ _ inv.stays c.is_placed_under.ensures.reads.image in
    record {
      stays = SameImage-trans _ _ _ then c.is_own_placed.ensures.reads.chains.image;
      failures = c.in_ok-is_own_placed.ensures.reads.failures ∙ (c.in_ok-is_placed_under.ensures.reads.failures ∙ inv.failures);
      placed = λ steady values root height is less.
          let seen = pages_seen c.args.pager.now.state in
          let view = c.in-Some.view in
          let of = c.in-Some.ensures.found.0 in
          let inside = seen_in c.args.pager.now.state c.header-header.result c.header-header.ensures c.args.n _ c.in_ok-page.ensures.outcome steady view of in
          let header = header_read c.args.pager.now.state c.header-header.result c.header-header.ensures c.args.n _ c.in_ok-page.ensures.outcome steady view of in
          let in_count : c.loop-i.i ≤ cell_count view.at view.page = search rules in
          let within = view_within seen c.args.n view inside c.loop-i.i in_count in
          let kid = c.in-Some-child_within.ensures.found in
          let child_is = view_child seen c.args.n view inside c.loop-i.i c.in-Some-child_within.child kid.0 in
          let child = child_page seen values root height c.args.n c.loop-i.i c.in-Some-child_within.child is within child_is in
          let s = c.args.sought.now in
          let told = rw c.if-not-branch.false at (c.in_ok-is_placed_under.ensures.placed (still_steady _ _ inv.stays steady) values root height
          (subst (λ (q : Pages). IsTreePage q values root height c.in-Some-child_within.child) (sym (same_pages _ _ inv.stays)) child) (omega (arith, less))) in
          let under : AllPlaced s.batch.now s.above s.most s.columns values (places_under seen Index height (child_at seen c.args.n c.loop-i.i)) =
          subst (λ (q : Pages). AllPlaced s.batch.now s.above s.most s.columns values (places_under q Index height (child_at seen c.args.n c.loop-i.i))) (same_pages _ _ inv.stays)
          (subst (λ (m : ℕ). AllPlaced s.batch.now s.above s.most s.columns values (places_under (pages_seen c.loop-i.pager.state) Index height m)) child_is told) in
          let same = same_pages _ _ then in
          let own = subst (λ (q : Pages). AllPlaced s.batch.now s.above s.most s.columns values (own_places q c.args.n c.loop-i.i)) same
          (rw c.if-not-branch-2.false at (c.in_ok-is_own_placed.ensures.placed (still_steady _ _ then steady) values (subst (λ (q : Pages). IsViewIn q c.args.n view) (sym same) inside)
          (subst (λ (q : Pages). AreValuesOf q values view.level c.args.n) (sym same) (values_here seen values root (suc height) c.args.n is view.level header)))) in
          below_more _ _ (inv.placed steady values root height is less)
          (branch_placed s.batch.now s.above s.most s.columns values seen height c.args.n c.loop-i.i under own);
    }

pub returns-clause-placed : goal.returns-clause-placed
returns-clause-placed g t c = λ steady values root height is less.
    let inv = c.loop-i.invariant in
    let seen = pages_seen c.args.pager.now.state in
    let view = c.in-Some.view in
    let of = c.in-Some.ensures.found.0 in
    let inside = seen_in c.args.pager.now.state c.header-header.result c.header-header.ensures c.args.n _ c.in_ok-page.ensures.outcome steady view of in
    let header = header_read c.args.pager.now.state c.header-header.result c.header-header.ensures c.args.n _ c.in_ok-page.ensures.outcome steady view of in
    let interior : view.level ≡ Interior = c.is_leaf.ensures.interior c.if-is_leaf.false in
    let below = height_of seen height c.args.n is.shape (subst (λ (l : Level). HasHeaderAt (header_at c.args.n) Index l (seen.page c.args.n)) interior header) in
    let here = subst (λ (h : ℕ). IsTreePage seen values root h c.args.n) below.1 is in
    let fewer : suc below.0 < c.args.levels = subst (λ (h : ℕ). h < c.args.levels) below.1 less in
    let end : c.loop-i.i ≡ cell_count view.at view.page + 1 = search rules in
    let all : c.loop-i.i ≡ suc (count_at seen c.args.n) = omega (arith, end, count_is seen c.args.n view inside) in
    let s = c.args.sought.now in
    subst (λ (h : ℕ). AllPlaced s.batch.now s.above s.most s.columns values (places_under seen Index h c.args.n)) (sym below.1)
    (page_placed s.batch.now s.above s.most s.columns values seen below.0 c.args.n c.loop-i.i all (inv.placed steady values root below.0 here fewer))
