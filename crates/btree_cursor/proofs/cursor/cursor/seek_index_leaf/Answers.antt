use Rattle.std.proofs.Common.{refl, inl, inr, ℕ, ◌≡◌, ◌⊎◌, ◌+◌, ◌<◌, ◌≤◌, length, arith, sym, ◌∙◌, ap, subst, Some}
use Rattle.std.proofs.lemmas.List.{length_push}
use Rattle.std.proofs.lemmas.Result.{err_from_is_err_and}
use Rattle.values.specs.declared.fault.Fault.{Fault}
use Rattle.values.specs.declared.fault.Fault.TheVariants.{BadPage}
use Rattle.pager.specs.declared.header.Header.{Header}
use Rattle.pager.specs.PagerState.{IsSoundHeader, PagerState}
use Rattle.pager.specs.Calls.{IsReadFault}
use Rattle.pager.proofs.CallLemmas.{SameImage-none, SameImage-trans}
use Rattle.btree.specs.declared.image.kind.TreeKind.TheVariants.{Index}
use Rattle.btree.specs.declared.image.kind.Level.TheVariants.{Leaf, Interior}
use Rattle.btree.specs.image.Broken.{BlamesMet}
use Rattle.btree.specs.image.Entries.{IsAtPlace}
use Rattle.btree.specs.image.Pages.{Pages, pages_seen}
use Rattle.btree.specs.image.Search.{IsBoundary}
use Rattle.btree.specs.image.Shape.{size_under}
use Rattle.btree.specs.image.Tree.{HasHeader, IsMetAt, child_at, count_at}
use Rattle.btree.proofs.SeenLemmas.{still_steady, same_pages, readable}
use Rattle.btree_cursor.specs.index_entries.Entries.{AreValuesOf, BreaksEntry}
use Rattle.btree_cursor.specs.index_entries.Sought.{comes_before}
use Rattle.btree_cursor.specs.cursor.Rest.{Holds}
use Rattle.btree_cursor.proofs.lemmas.cursor.EntrySeekLemmas.{entry_down, entry_first, entry_header, entry_leaf, entry_page, entry_short, entry_values}
use Rattle.btree_cursor.proofs.lemmas.cursor.LeftLemmas.{left_down, left_leaf}
use Rattle.btree_cursor.proofs.lemmas.cursor.StandLemmas.{kept_page, stands_at, stands_met}
use Rattle.btree_cursor.proofs.lemmas.cursor.WayLemmas.{blames_child, blames_depth, blames_header, leads_down, leads_first, reached_leaf}
use Rattle.btree_cursor.proofs.cursor.cursor.seek_index_leaf.Goals as goal

pub loop-alloc-init : goal.loop-alloc-init
loop-alloc-init g c = record {
  image = SameImage-none _;
  failures = refl;
  chained = λ steady whole. refl;
  number = c.requires.root;
  seeks = λ steady levels values index. entry_first (pages_seen c.args.pager.now.state) c.args.key.now values levels c.args.root index c.args.frames.now.items c.args.pager.now.state.asked c.requires.top;
  way = λ steady. leads_first _ _ _ _ c.requires.top;
  asks = omega arith;
  left = omega arith;
}

pub returns-in_err-frame-clause-lands : goal.returns-in_err-frame-clause-lands
returns-in_err-frame-clause-lands g c = λ steady levels values index.
    let p = err_from_is_err_and c.from_residual.result c.from_residual.ensures.1 in
    let inv = c.loop-alloc.invariant in
    let header = entry_header (pages_seen c.args.pager.now.state) c.args.key.now values levels c.args.root index c.loop-alloc.frames.items c.loop-alloc.number c.loop-alloc.pager.state.asked (c.args.pager.now.state.asked + size_under (pages_seen c.args.pager.now.state) levels c.args.root) (inv.seeks steady levels values index) in
    rw (p.1, p.2)
    (c.in_err-frame.ensures.sound (still_steady _ _ inv.image steady) header.0
    (subst (λ (x : Pages). HasHeader x Index header.0 c.loop-alloc.number) (sym (same_pages _ _ inv.image)) header.1))

pub returns-in_err-at-clause-lands : goal.returns-in_err-at-clause-lands
returns-in_err-at-clause-lands g c = λ steady levels values index.
    let p = err_from_is_err_and c.from_residual-in_err-at.result c.from_residual-in_err-at.ensures.1 in
    let inv = c.loop-alloc.invariant in
    let seen = pages_seen c.args.pager.now.state in
    let stays = SameImage-trans _ _ _ inv.image c.read_frame.ensures.reads.image in
    let same = same_pages _ _ inv.image in
    let told = c.in_ok-frame.ensures.seen (still_steady _ _ inv.image steady) in
    let holds = subst (λ (x : Pages). Holds x c.in_ok-frame.frame) same told.0 in
    let header = subst (λ (x : Pages). HasHeader x Index c.in_ok-frame.frame.level c.loop-alloc.number) same told.1 in
    let s = inv.seeks steady levels values index in
    let sound = subst (λ (x : Pages). Holds x c.in_ok-frame.frame → AreValuesOf x values c.in_ok-frame.frame.level c.in_ok-frame.frame.number → IsReadFault c.in_err-at.field-0.0)
    (same_pages _ _ stays) (c.in_err-at.ensures.found (still_steady _ _ stays steady) c.in_ok-frame.frame.level values) in
    rw (p.1, p.2) (sound holds (entry_values (pages_seen c.args.pager.now.state) c.args.key.now values levels c.args.root index c.loop-alloc.frames.items c.loop-alloc.number c.loop-alloc.pager.state.asked (c.args.pager.now.state.asked + size_under (pages_seen c.args.pager.now.state) levels c.args.root) s c.in_ok-frame.frame c.in_ok-frame.ensures.number c.in_ok-frame.frame.level header))

pub returns-in-Leaf-clause-lands : goal.returns-in-Leaf-clause-lands
returns-in-Leaf-clause-lands g c = λ steady levels values index.
    let inv = c.loop-alloc.invariant in
    let seen = pages_seen c.args.pager.now.state in
    let stays = SameImage-trans _ _ _ inv.image c.read_frame.ensures.reads.image in
    let same = same_pages _ _ inv.image in
    let told = c.in_ok-frame.ensures.seen (still_steady _ _ inv.image steady) in
    let holds = subst (λ (x : Pages). Holds x c.in_ok-frame.frame) same told.0 in
    let header = subst (λ (x : Pages). HasHeader x Index Leaf c.loop-alloc.number) same (rw c.in-Leaf.is at told.1) in
    let s = inv.seeks steady levels values index in
    let boundary = subst (λ (x : Pages). Holds x c.in_ok-frame.frame → AreValuesOf x values Leaf c.in_ok-frame.frame.number
    → IsBoundary IsAtPlace (λ place. comes_before c.args.key.now (values place)) x Index Leaf c.in_ok-frame.frame.number c.in_ok-at.at)
    (same_pages _ _ stays) (c.in_ok-at.ensures.found (still_steady _ _ stays steady) Leaf values) holds (entry_values (pages_seen c.args.pager.now.state) c.args.key.now values levels c.args.root index c.loop-alloc.frames.items c.loop-alloc.number c.loop-alloc.pager.state.asked (c.args.pager.now.state.asked + size_under (pages_seen c.args.pager.now.state) levels c.args.root) s c.in_ok-frame.frame c.in_ok-frame.ensures.number Leaf header) in
    let asked : c.entries_before.new.pager.state.asked ≤ c.loop-alloc.pager.state.asked + 1 = omega (arith, c.entries_before.ensures.reads.chains.unasked, c.read_frame.ensures.asked) in
    entry_leaf (pages_seen c.args.pager.now.state) c.args.key.now values levels c.args.root index c.loop-alloc.frames.items c.loop-alloc.number c.loop-alloc.pager.state.asked (c.args.pager.now.state.asked + size_under (pages_seen c.args.pager.now.state) levels c.args.root) s c.in_ok-frame.frame c.in_ok-frame.ensures.number holds c.in_ok-at.at _ asked header boundary

pub returns-in-Leaf-clause-left : goal.returns-in-Leaf-clause-left
returns-in-Leaf-clause-left g c =
    let inv = c.loop-alloc.invariant in
    let short : length c.loop-alloc.frames.items < 20 = omega (arith, c.loop-alloc.frames.ok.0) in
    let leaf = left_leaf c.loop-alloc.frames.items (record c.in_ok-frame.frame { at = c.in_ok-at.at }) short c.in_ok-frame.ensures.small in
    omega (arith, leaf, inv.left)

pub returns-in_default-clause-lands : goal.returns-in_default-clause-lands
returns-in_default-clause-lands g c = λ steady levels values index.
    let inv = c.loop-alloc.invariant in
    let seen = pages_seen c.args.pager.now.state in
    let stays = SameImage-trans _ _ _ inv.image c.read_frame.ensures.reads.image in
    let same = same_pages _ _ inv.image in
    let told = c.in_ok-frame.ensures.seen (still_steady _ _ inv.image steady) in
    let holds = subst (λ (x : Pages). Holds x c.in_ok-frame.frame) same told.0 in
    let header = subst (λ (x : Pages). HasHeader x Index Interior c.loop-alloc.number) same (rw c.in-Interior.is at told.1) in
    let s = inv.seeks steady levels values index in
    let boundary = subst (λ (x : Pages). Holds x c.in_ok-frame.frame → AreValuesOf x values Interior c.in_ok-frame.frame.number
    → IsBoundary IsAtPlace (λ place. comes_before c.args.key.now (values place)) x Index Interior c.in_ok-frame.frame.number c.in_ok-at.at)
    (same_pages _ _ stays) (c.in_ok-at.ensures.found (still_steady _ _ stays steady) Interior values) holds (entry_values (pages_seen c.args.pager.now.state) c.args.key.now values levels c.args.root index c.loop-alloc.frames.items c.loop-alloc.number c.loop-alloc.pager.state.asked (c.args.pager.now.state.asked + size_under (pages_seen c.args.pager.now.state) levels c.args.root) s c.in_ok-frame.frame c.in_ok-frame.ensures.number Interior header) in
    let same_header : c.header-header.result ≡ c.args.pager.now.state.header = c.header-header.ensures.is ∙ c.entries_before.ensures.reads.chains.image.header ∙ stays.header in
    let asked : c.entries_before.new.pager.state.asked ≤ c.loop-alloc.pager.state.asked + 1 = omega (arith, c.entries_before.ensures.reads.chains.unasked, c.read_frame.ensures.asked) in
    let page = entry_page (pages_seen c.args.pager.now.state) c.args.key.now values levels c.args.root index c.loop-alloc.frames.items c.loop-alloc.number c.loop-alloc.pager.state.asked (c.args.pager.now.state.asked + size_under (pages_seen c.args.pager.now.state) levels c.args.root) s c.in_ok-frame.frame c.in_ok-frame.ensures.number Interior header in
    let down = entry_down (pages_seen c.args.pager.now.state) c.args.key.now values levels c.args.root index c.loop-alloc.frames.items c.loop-alloc.number c.loop-alloc.pager.state.asked (c.args.pager.now.state.asked + size_under (pages_seen c.args.pager.now.state) levels c.args.root) s c.in_ok-frame.frame c.in_ok-frame.ensures.number holds c.in_ok-at.at _ asked c.in-Interior.is header boundary in
    let e = c.in_default.ensures.found seen holds (readable _ _ (subst (λ (x : Header). IsSoundHeader x) same_header c.header-header.ensures.sound))
    (ap (λ (x : Header). x.usable) (sym same_header)) (ap (λ (x : Header). x.pages) (sym same_header)) page boundary.within down.heading.number in cc

pub loop-alloc-preserved : goal.loop-alloc-preserved
loop-alloc-preserved g c =
    let inv = c.loop-alloc.invariant in
    let seen = pages_seen c.args.pager.now.state in
    let stays = SameImage-trans _ _ _ inv.image c.read_frame.ensures.reads.image in
    record {
      image = SameImage-trans _ _ _ stays c.entries_before.ensures.reads.chains.image;
      failures = c.in_ok-at.ensures.reads.failures ∙ c.in_ok-frame.ensures.reads.failures ∙ inv.failures;
      chained = λ steady whole.
          let told = c.in_ok-frame.ensures.seen (still_steady _ _ inv.image steady) in
          let local = kept_page seen _ _ (same_pages _ _ inv.image) (same_pages _ _ stays) c.args.root c.loop-alloc.number
          c.loop-alloc.frames.items (inv.way steady) c.in_ok-frame.frame c.in_ok-frame.ensures.number told.0 told.1 whole _
          (c.entries_before.ensures.local (still_steady _ _ stays steady)) in
          ap (λ (x : PagerState). x.chained) local ∙ c.read_frame.ensures.reads.unchained ∙ inv.chained steady whole;
      number = (c.in-Some.ensures.number.0, subst (λ (x : Header). c.in-Some.child ≤ x.pages) c.header-header.ensures.is c.in-Some.ensures.number.1);
      seeks = λ steady levels values index.
          let same = same_pages _ _ inv.image in
          let told = c.in_ok-frame.ensures.seen (still_steady _ _ inv.image steady) in
          let holds = subst (λ (x : Pages). Holds x c.in_ok-frame.frame) same told.0 in
          let header = subst (λ (x : Pages). HasHeader x Index Interior c.loop-alloc.number) same (rw c.in-Interior.is at told.1) in
          let s = inv.seeks steady levels values index in
          let boundary = subst (λ (x : Pages). Holds x c.in_ok-frame.frame → AreValuesOf x values Interior c.in_ok-frame.frame.number
          → IsBoundary IsAtPlace (λ place. comes_before c.args.key.now (values place)) x Index Interior c.in_ok-frame.frame.number c.in_ok-at.at)
          (same_pages _ _ stays) (c.in_ok-at.ensures.found (still_steady _ _ stays steady) Interior values) holds (entry_values (pages_seen c.args.pager.now.state) c.args.key.now values levels c.args.root index c.loop-alloc.frames.items c.loop-alloc.number c.loop-alloc.pager.state.asked (c.args.pager.now.state.asked + size_under (pages_seen c.args.pager.now.state) levels c.args.root) s c.in_ok-frame.frame c.in_ok-frame.ensures.number Interior header) in
          let same_header : c.header-header.result ≡ c.args.pager.now.state.header = c.header-header.ensures.is ∙ c.entries_before.ensures.reads.chains.image.header ∙ stays.header in
          let asked : c.entries_before.new.pager.state.asked ≤ c.loop-alloc.pager.state.asked + 1 = omega (arith, c.entries_before.ensures.reads.chains.unasked, c.read_frame.ensures.asked) in
          let page = entry_page (pages_seen c.args.pager.now.state) c.args.key.now values levels c.args.root index c.loop-alloc.frames.items c.loop-alloc.number c.loop-alloc.pager.state.asked (c.args.pager.now.state.asked + size_under (pages_seen c.args.pager.now.state) levels c.args.root) s c.in_ok-frame.frame c.in_ok-frame.ensures.number Interior header in
          let down = entry_down (pages_seen c.args.pager.now.state) c.args.key.now values levels c.args.root index c.loop-alloc.frames.items c.loop-alloc.number c.loop-alloc.pager.state.asked (c.args.pager.now.state.asked + size_under (pages_seen c.args.pager.now.state) levels c.args.root) s c.in_ok-frame.frame c.in_ok-frame.ensures.number holds c.in_ok-at.at _ asked c.in-Interior.is header boundary in
          let found : Some c.in-Some.child ≡ Some (child_at seen c.in_ok-frame.frame.number c.in_ok-at.at) =
          c.in-Some.ensures.found seen holds (readable _ _ (subst (λ (x : Header). IsSoundHeader x) same_header c.header-header.ensures.sound))
          (ap (λ (x : Header). x.usable) (sym same_header)) (ap (λ (x : Header). x.pages) (sym same_header)) page boundary.within down.heading.number in
          let child : c.in-Some.child ≡ child_at seen c.in_ok-frame.frame.number c.in_ok-at.at = cc in
          rw (c.in_ok-push-in-Interior.ensures.items, child) down;
      way = λ steady.
          let same = same_pages _ _ inv.image in
          let told = c.in_ok-frame.ensures.seen (still_steady _ _ inv.image steady) in
          let holds = subst (λ (x : Pages). Holds x c.in_ok-frame.frame) same told.0 in
          let header = subst (λ (x : Pages). HasHeader x Index Interior c.loop-alloc.number) same (rw c.in-Interior.is at told.1) in
          let same_header : c.header-header.result ≡ c.args.pager.now.state.header = c.header-header.ensures.is ∙ c.entries_before.ensures.reads.chains.image.header ∙ stays.header in
          let named = c.in-Some.ensures.named seen holds (ap (λ (x : Header). x.usable) (sym same_header)) (ap (λ (x : Header). x.pages) (sym same_header)) in
          leads_down seen Index c.args.root c.loop-alloc.frames.items c.push.new.self.items c.loop-alloc.number (record c.in_ok-frame.frame { at = c.in_ok-at.at }) c.in_ok-at.at c.in-Some.child
          (inv.way steady) c.in_ok-frame.ensures.number (record { long = holds.long; page = holds.page; count = holds.count }) header named c.in_ok-push-in-Interior.ensures.items;
      asks =
          let pushed : length c.push.new.self.items ≡ length c.loop-alloc.frames.items + 1 = ap length c.in_ok-push-in-Interior.ensures.items ∙ length_push c.loop-alloc.frames.items _ in
          omega (arith, pushed, inv.asks, c.read_frame.ensures.asked, c.entries_before.ensures.reads.chains.unasked);
      left =
          let short : length c.loop-alloc.frames.items < 20 = omega (arith, c.loop-alloc.frames.ok.0) in
          let down = left_down c.loop-alloc.frames.items c.push.new.self.items (record c.in_ok-frame.frame { at = c.in_ok-at.at }) c.in_ok-push-in-Interior.ensures.items short c.in_ok-frame.ensures.small in
          omega (arith, down, inv.left);
    }

pub returns-clause-lands : goal.returns-clause-lands
returns-clause-lands g c = λ steady levels values index.
    let short : length c.loop-alloc.frames.items < 20 = entry_short (pages_seen c.args.pager.now.state) c.args.key.now values levels c.args.root index c.loop-alloc.frames.items c.loop-alloc.number c.loop-alloc.pager.state.asked (c.args.pager.now.state.asked + size_under (pages_seen c.args.pager.now.state) levels c.args.root) (c.loop-alloc.invariant.seeks steady levels values index) in
    absurd (omega (arith, c.loop-alloc.frames.ok.0))

pub returns-in_err-frame-clause-way : goal.returns-in_err-frame-clause-way
returns-in_err-frame-clause-way g c = λ steady.
    let p = err_from_is_err_and c.from_residual.result c.from_residual.ensures.1 in
    let inv = c.loop-alloc.invariant in
    let here = inv.way steady in
    let same = same_pages _ _ inv.image in
    rw (p.1, p.2)
    (elim c.in_err-frame.ensures.fault [
      | inl read ↦ inl read
      | inr page ↦ inr (inl (subst (λ (x : Fault). BlamesMet (pages_seen c.args.pager.now.state) Index c.args.root x) (sym page)
          (blames_header _ _ _ _ _ here.met (λ level header.
          elim (c.in_err-frame.ensures.sound (still_steady _ _ inv.image steady) level (subst (λ (x : Pages). HasHeader x Index level c.loop-alloc.number) (sym same) header)) [
            | inl failed ↦ cc
            | inr memory ↦ cc
          ]))))
    ])

pub returns-in_err-at-clause-way : goal.returns-in_err-at-clause-way
returns-in_err-at-clause-way g c = λ steady.
    let p = err_from_is_err_and c.from_residual-in_err-at.result c.from_residual-in_err-at.ensures.1 in
    let inv = c.loop-alloc.invariant in
    let seen = pages_seen c.args.pager.now.state in
    let stays = SameImage-trans _ _ _ inv.image c.read_frame.ensures.reads.image in
    let same = same_pages _ _ inv.image in
    let told = c.in_ok-frame.ensures.seen (still_steady _ _ inv.image steady) in
    let holds = subst (λ (x : Pages). Holds x c.in_ok-frame.frame) same told.0 in
    let header = subst (λ (x : Pages). HasHeader x Index c.in_ok-frame.frame.level c.loop-alloc.number) same told.1 in
    let here = inv.way steady in
    let level = c.in_ok-frame.frame.level in
    let n = c.in_ok-frame.frame.number in
    let number : n ≡ c.loop-alloc.number = c.in_ok-frame.ensures.number in
    let broken = subst (λ (x : Pages). Holds x c.in_ok-frame.frame → HasHeader x Index level n → IsReadFault c.in_err-at.field-0.0 ⊎ BreaksEntry x level n c.in_err-at.field-0.0)
    (same_pages _ _ stays) (c.in_err-at.ensures.broken (still_steady _ _ stays steady) level) holds (subst (λ (k : ℕ). HasHeader seen Index level k) (sym number) header) in
    rw (p.1, p.2)
    (elim broken [
      | inl read ↦ inl read
      | inr entry ↦ inr (inr (
        length c.loop-alloc.frames.items + 1,
        n,
        level,
        subst (λ (k : ℕ). IsMetAt seen Index c.args.root (length c.loop-alloc.frames.items + 1) k) (sym number) here.met,
        subst (λ (k : ℕ). HasHeader seen Index level k) (sym number) header,
        entry,
      ))
    ])

pub returns-in-Leaf-clause-way : goal.returns-in-Leaf-clause-way
returns-in-Leaf-clause-way g c = λ steady.
    let inv = c.loop-alloc.invariant in
    let same = same_pages _ _ inv.image in
    let seen = c.in_ok-frame.ensures.seen (still_steady _ _ inv.image steady) in
    let holds = subst (λ (x : Pages). Holds x c.in_ok-frame.frame) same seen.0 in
    let header = subst (λ (x : Pages). HasHeader x Index Leaf c.loop-alloc.number) same (rw c.in-Leaf.is at seen.1) in
    let here = inv.way steady in
    reached_leaf _ _ _ _ _ c.in-Leaf.is here.way
    (stands_at _ _ _ _ _ (stands_met _ _ _ _ _ Leaf _ c.in_ok-frame.ensures.number here.met holds header tt))

pub returns-in_default-clause-way : goal.returns-in_default-clause-way
returns-in_default-clause-way g c = λ steady.
    let inv = c.loop-alloc.invariant in
    let seen = pages_seen c.args.pager.now.state in
    let stays = SameImage-trans _ _ _ inv.image c.read_frame.ensures.reads.image in
    let same = same_pages _ _ inv.image in
    let told = c.in_ok-frame.ensures.seen (still_steady _ _ inv.image steady) in
    let holds = subst (λ (x : Pages). Holds x c.in_ok-frame.frame) same told.0 in
    let header = subst (λ (x : Pages). HasHeader x Index Interior c.loop-alloc.number) same (rw c.in-Interior.is at told.1) in
    let same_header : c.header-header.result ≡ c.args.pager.now.state.header = c.header-header.ensures.is ∙ c.entries_before.ensures.reads.chains.image.header ∙ stays.header in
    let here = inv.way steady in
    let n = c.in_ok-frame.frame.number in
    let number : n ≡ c.loop-alloc.number = c.in_ok-frame.ensures.number in
    let within = subst (λ (x : Pages). Holds x c.in_ok-frame.frame → c.in_ok-at.at ≤ count_at x n) (same_pages _ _ stays) (c.in_ok-at.ensures.within (still_steady _ _ stays steady)) holds in
    inr (inl (subst (λ (k : ℕ). BlamesMet seen Index c.args.root (BadPage k)) number (blames_child seen Index c.args.root _ n c.in_ok-at.at (subst (λ (k : ℕ). IsMetAt seen Index c.args.root (length c.loop-alloc.frames.items + 1) k) (sym number) here.met)
    (subst (λ (k : ℕ). HasHeader seen Index Interior k) (sym number) header) within (λ page child.
    let e = c.in_default.ensures.found seen holds (readable _ _ (subst (λ (x : Header). IsSoundHeader x) same_header c.header-header.ensures.sound))
    (ap (λ (x : Header). x.usable) (sym same_header)) (ap (λ (x : Header). x.pages) (sym same_header)) page within child in cc))))

pub returns-clause-way : goal.returns-clause-way
returns-clause-way g c = λ steady.
    inr (inl (blames_depth _ _ _ _ _ (c.loop-alloc.invariant.way steady) (omega (arith, c.loop-alloc.frames.ok.0))))

pub returns-in_err-at-clause-unchained : goal.returns-in_err-at-clause-unchained
returns-in_err-at-clause-unchained g c = λ steady whole.
    let inv = c.loop-alloc.invariant in
    let stays = SameImage-trans _ _ _ inv.image c.read_frame.ensures.reads.image in
    let told = c.in_ok-frame.ensures.seen (still_steady _ _ inv.image steady) in
    let local = kept_page (pages_seen c.args.pager.now.state) _ _ (same_pages _ _ inv.image) (same_pages _ _ stays) c.args.root c.loop-alloc.number
    c.loop-alloc.frames.items (inv.way steady) c.in_ok-frame.frame c.in_ok-frame.ensures.number told.0 told.1 whole _
    (c.entries_before.ensures.local (still_steady _ _ stays steady)) in
    ap (λ (x : PagerState). x.chained) local ∙ c.read_frame.ensures.reads.unchained ∙ inv.chained steady whole

pub returns-in-Leaf-clause-unchained : goal.returns-in-Leaf-clause-unchained
returns-in-Leaf-clause-unchained g c = λ steady whole.
    let inv = c.loop-alloc.invariant in
    let stays = SameImage-trans _ _ _ inv.image c.read_frame.ensures.reads.image in
    let told = c.in_ok-frame.ensures.seen (still_steady _ _ inv.image steady) in
    let local = kept_page (pages_seen c.args.pager.now.state) _ _ (same_pages _ _ inv.image) (same_pages _ _ stays) c.args.root c.loop-alloc.number
    c.loop-alloc.frames.items (inv.way steady) c.in_ok-frame.frame c.in_ok-frame.ensures.number told.0 told.1 whole _
    (c.entries_before.ensures.local (still_steady _ _ stays steady)) in
    ap (λ (x : PagerState). x.chained) local ∙ c.read_frame.ensures.reads.unchained ∙ inv.chained steady whole

pub returns-in_default-clause-unchained : goal.returns-in_default-clause-unchained
returns-in_default-clause-unchained g c = λ steady whole.
    let inv = c.loop-alloc.invariant in
    let stays = SameImage-trans _ _ _ inv.image c.read_frame.ensures.reads.image in
    let told = c.in_ok-frame.ensures.seen (still_steady _ _ inv.image steady) in
    let local = kept_page (pages_seen c.args.pager.now.state) _ _ (same_pages _ _ inv.image) (same_pages _ _ stays) c.args.root c.loop-alloc.number
    c.loop-alloc.frames.items (inv.way steady) c.in_ok-frame.frame c.in_ok-frame.ensures.number told.0 told.1 whole _
    (c.entries_before.ensures.local (still_steady _ _ stays steady)) in
    ap (λ (x : PagerState). x.chained) local ∙ c.read_frame.ensures.reads.unchained ∙ inv.chained steady whole

pub returns-in_err-frame-clause-unchained : goal.returns-in_err-frame-clause-unchained
returns-in_err-frame-clause-unchained g c = λ steady whole. c.read_frame.ensures.reads.unchained ∙ c.loop-alloc.invariant.chained steady whole

pub returns-in_err-push-in-Interior-clause-unchained : goal.returns-in_err-push-in-Interior-clause-unchained
returns-in_err-push-in-Interior-clause-unchained g c = λ steady whole.
    let inv = c.loop-alloc.invariant in
    let stays = SameImage-trans _ _ _ inv.image c.read_frame.ensures.reads.image in
    let told = c.in_ok-frame.ensures.seen (still_steady _ _ inv.image steady) in
    let local = kept_page (pages_seen c.args.pager.now.state) _ _ (same_pages _ _ inv.image) (same_pages _ _ stays) c.args.root c.loop-alloc.number
    c.loop-alloc.frames.items (inv.way steady) c.in_ok-frame.frame c.in_ok-frame.ensures.number told.0 told.1 whole _
    (c.entries_before.ensures.local (still_steady _ _ stays steady)) in
    ap (λ (x : PagerState). x.chained) local ∙ c.read_frame.ensures.reads.unchained ∙ inv.chained steady whole
