use Rattle.std.proofs.Common.{rules, arith, ◌≡◌, ◌+◌, ◌*◌, ◌<◌, ◌≤◌, length, inr, ap, IsTrue, IsFalse}
use Rattle.std.proofs.lemmas.Result.{err_from_is_err_and}
use Rattle.pager.specs.declared.header.Header.{Header}
use Rattle.btree.specs.image.Pages.{pages_seen}
use Rattle.btree.proofs.lemmas.page_use.WalkLemmas.{close_trunk, leaf_fault, open_trunk, see_trunk, trunk_twice}
use Rattle.btree.proofs.page_use.freelist.mark_trunk.Goals as goal

pub returns-then-not-mark-clause-fault : goal.returns-then-not-mark-clause-fault
returns-then-not-mark-clause-fault g c = λ steady.
    let no : IsFalse c.mark.result = search rules in
    let slice : c.as_slice.result.now ≡ c.in-Some.page = search rules in
    let seen = see_trunk c.args.pager.now.state c.header-header.result c.header-header.ensures.is c.args.number _ c.in-Some.page c.in-Some.is
    (c.in_ok-page.ensures.page steady) c.in_ok-page.ensures.number c.as_slice.result.now slice c.number_at-count.result c.number_at-count.ensures in
    let same = ap (λ (h : Header). h.usable) c.header-header.ensures.is in
    let room : 8 + 4 * c.number_at-count.result ≤ (pages_seen c.args.pager.now.state).usable = omega (arith, same, c.if-count-header.false) in
    inr (inr (λ users done k next.
    trunk_twice (pages_seen c.args.pager.now.state) c.args.number _ c.number_at-count.result c.header-header.result.pages seen room users done k c.args.used.now next (c.mark.ensures.twice no)))

pub returns-in_err-mark_leaves-clause-fault : goal.returns-in_err-mark_leaves-clause-fault
returns-in_err-mark_leaves-clause-fault g c = λ steady.
    let yes : IsTrue c.mark.result = search rules in
    let slice : c.as_slice.result.now ≡ c.in-Some.page = search rules in
    let seen = see_trunk c.args.pager.now.state c.header-header.result c.header-header.ensures.is c.args.number _ c.in-Some.page c.in-Some.is
    (c.in_ok-page.ensures.page steady) c.in_ok-page.ensures.number c.as_slice.result.now slice c.number_at-count.result c.number_at-count.ensures in
    let same = ap (λ (h : Header). h.usable) c.header-header.ensures.is in
    let room : 8 + 4 * c.number_at-count.result ≤ (pages_seen c.args.pager.now.state).usable = omega (arith, same, c.if-count-header.false) in
    let inside : c.args.number < length c.args.used.now = omega (arith, seen.number_is.1, c.requires.long) in
    let p = err_from_is_err_and c.from_residual-in_err-mark_leaves.result c.from_residual-in_err-mark_leaves.ensures.1 in
    rw (p.1, p.2)
    (leaf_fault (pages_seen c.args.pager.now.state) c.args.number _ c.number_at-count.result c.header-header.result.pages seen room c.args.left
    c.args.used.now c.mark.new.used (c.mark.ensures.new yes) inside (c.mark.ensures.marked yes) _ c.in_err-mark_leaves.ensures.fault)

pub returns-clause-marks : goal.returns-clause-marks
returns-clause-marks g c = λ steady users done k next.
    let yes : IsTrue c.mark.result = search rules in
    let slice : c.as_slice.result.now ≡ c.in-Some.page = search rules in
    let seen = see_trunk c.args.pager.now.state c.header-header.result c.header-header.ensures.is c.args.number _ c.in-Some.page c.in-Some.is
    (c.in_ok-page.ensures.page steady) c.in_ok-page.ensures.number c.as_slice.result.now slice c.number_at-count.result c.number_at-count.ensures in
    let same = ap (λ (h : Header). h.usable) c.header-header.ensures.is in
    let room : 8 + 4 * c.number_at-count.result ≤ (pages_seen c.args.pager.now.state).usable = omega (arith, same, c.if-count-header.false) in
    let inside : c.args.number < length c.args.used.now = omega (arith, seen.number_is.1, c.requires.long) in
    close_trunk (pages_seen c.args.pager.now.state) c.args.number _ c.number_at-count.result c.header-header.result.pages seen room users done k c.args.used.now next
    c.mark_leaves.new.used
    (c.in_ok-mark_leaves.ensures.marks (pages_seen c.args.pager.now.state) users done k seen.all_is
    (open_trunk (pages_seen c.args.pager.now.state) c.args.number _ c.number_at-count.result c.header-header.result.pages seen room users done k c.args.used.now next
    c.mark.new.used (c.mark.ensures.new yes) inside (c.mark.ensures.marked yes)))
