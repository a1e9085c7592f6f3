use Rattle.std.proofs.Common.{rules, ◌≡◌, ◌≢◌, ◌+◌, ℕ, suc, List, inl, inr, refl, sym, ◌∙◌, subst}
use Rattle.std.proofs.lemmas.Result.{err_from_is_err_and}
use Rattle.pager.specs.declared.header.Header.{Header}
use Rattle.btree.specs.image.Pages.{Pages, pages_seen}
use Rattle.btree.specs.image.Freelist.{IsSoundTrunk, leaf_count, next_trunk}
use Rattle.btree.specs.page_use.Marks.{AreMarks, AreTreeMarks, IsGoneWith}
use Rattle.btree.specs.image.Use.{Use, Users}
use Rattle.btree.specs.page_use.FreeWalk.{IsFreeWalk, IsNextTrunk, IsTrunkFault}
use Rattle.btree.proofs.lemmas.page_use.FreeLemmas.{some_left, walk_more, walk_none, whole}
use Rattle.btree.proofs.lemmas.page_use.WalkLemmas.{next_end, next_more, next_start, trunk_fault}
use Rattle.pager.proofs.CallLemmas.{AsksChainsOnly-trans}
use Rattle.btree.proofs.SeenLemmas.{same_pages, still_steady}
use Rattle.btree.proofs.page_use.freelist.check_freelist.Goals as goal

pub loop-next-init : goal.loop-next-init
loop-next-init g c =
    let pages = pages_seen c.args.pager.now.state in
    let header = c.args.pager.now.state.header in
    record {
      chained = search rules;
      failures = refl;
      walk = λ steady.
          subst (λ (h : Header). (k : ℕ) × IsFreeWalk pages header.freelist header.free_pages k h.freelist h.free_pages
          × ((users : Users) (done : List Use) → users.first ≡ header.freelist → AreTreeMarks pages users done c.args.used.now
          → IsNextTrunk pages users done k h.freelist c.args.used.now)) (sym c.header-header.ensures.is)
          (0, walk_none pages header.freelist header.free_pages, λ users done is trees. next_start pages users done header.freelist c.args.used.now is trees);
    }

pub returns-in_err-after-clause-fault : goal.returns-in_err-after-clause-fault
returns-in_err-after-clause-fault g c = λ steady.
    let inv = c.loop-next.invariant in
    let w = inv.walk steady in
    let some : c.loop-next.next ≢ 0 = search rules in
    let told = c.in_err-after.ensures.fault (still_steady _ _ inv.chained.image steady) in
    let e = same_pages _ _ inv.chained.image in
    let p = err_from_is_err_and c.from_residual.result c.from_residual.ensures.1 in
    rw (p.1, p.2)
    (trunk_fault (pages_seen c.args.pager.now.state) c.args.pager.now.state.header.freelist c.args.pager.now.state.header.free_pages w.0 c.loop-next.next c.loop-next.left
    c.args.used.now c.loop-next.used w.1 some w.2 c.in_err-after.field-0.0
    (subst (λ (x : Pages). IsTrunkFault x c.loop-next.next c.loop-next.left c.loop-next.used c.in_err-after.field-0.0) e told))

pub loop-next-preserved : goal.loop-next-preserved
loop-next-preserved g c =
    let inv = c.loop-next.invariant in
    let told = c.in_ok-after.ensures in
    let pages = pages_seen c.args.pager.now.state in
    let header = c.args.pager.now.state.header in
    record {
      chained = AsksChainsOnly-trans _ _ _ inv.chained c.mark_trunk.ensures.reads.chains;
      failures = told.reads.failures ∙ inv.failures;
      walk = λ steady.
          let w = inv.walk steady in
          let now = still_steady _ _ inv.chained.image steady in
          let e = same_pages _ _ inv.chained.image in
          let sound = subst (λ (x : Pages). IsSoundTrunk x c.loop-next.next) e (told.sound now) in
          let next = subst (λ (x : Pages). c.in_ok-after.after ≡ next_trunk x c.loop-next.next) e (told.next now) in
          let left = subst (λ (x : Pages). c.in_ok-after.fewer + (1 + leaf_count x c.loop-next.next) ≡ c.loop-next.left) e (told.left now) in (
            suc w.0,
            walk_more pages header.freelist header.free_pages w.0 c.loop-next.next c.loop-next.left w.1 c.in_ok-after.after c.in_ok-after.fewer sound next left,
            λ users done is trees.
                let here = w.2 users done is trees in
                next_more pages users done w.0 c.loop-next.next c.loop-next.used here c.in_ok-after.after c.mark_trunk.new.used sound next
                (subst (λ (x : Pages). IsNextTrunk x users done w.0 c.loop-next.next c.loop-next.used
                → AreMarks x users (IsGoneWith done (suc w.0) (suc w.0) 0) c.mark_trunk.new.used) e (told.marks now users done w.0) here),
          );
    }

pub returns-clause-marks : goal.returns-clause-marks
returns-clause-marks g c = λ steady users done is trees.
    let w = c.loop-next.invariant.walk steady in
    let last : c.loop-next.next ≡ 0 = search rules in
    next_end (pages_seen c.args.pager.now.state) users done w.0 c.loop-next.next c.loop-next.used (w.2 users done is trees) last

pub returns-clause-freelist : goal.returns-clause-freelist
returns-clause-freelist g c = λ steady.
    let w = c.loop-next.invariant.walk steady in
    let last : c.loop-next.next ≡ 0 = search rules in
    let none : c.loop-next.left ≡ 0 = search rules in
    whole (pages_seen c.args.pager.now.state) c.args.pager.now.state.header.freelist c.args.pager.now.state.header.free_pages w.0 c.loop-next.next c.loop-next.left w.1 last none

pub returns-then-left-ne0-clause-fault : goal.returns-then-left-ne0-clause-fault
returns-then-left-ne0-clause-fault g c = λ steady.
    let w = c.loop-next.invariant.walk steady in
    let last : c.loop-next.next ≡ 0 = search rules in
    let some : c.loop-next.left ≢ 0 = search rules in
    inr (inl (refl, some_left (pages_seen c.args.pager.now.state) c.args.pager.now.state.header.freelist c.args.pager.now.state.header.free_pages w.0 c.loop-next.next c.loop-next.left w.1 last some))
