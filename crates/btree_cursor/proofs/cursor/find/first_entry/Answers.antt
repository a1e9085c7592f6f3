use Rattle.std.proofs.Common.{refl, inl, inr, ℕ, ◌≡◌, ◌⊎◌, ◌+◌, ◌≤◌, arith, sym, ◌∙◌, ap, subst, rules}
use Rattle.std.proofs.lemmas.Result.{err_from_is_err_and}
use Rattle.values.specs.declared.fault.Fault.{Fault}
use Rattle.values.specs.declared.fault.Fault.TheVariants.{BadPage}
use Rattle.pager.specs.declared.header.Header.{Header}
use Rattle.pager.specs.PagerState.{IsSoundHeader, PagerState}
use Rattle.pager.specs.Calls.{IsReadFault}
use Rattle.pager.proofs.CallLemmas.{SameImage-none, SameImage-trans}
use Rattle.btree.specs.declared.image.kind.TreeKind.TheVariants.{Index}
use Rattle.btree.specs.declared.image.kind.Level.TheVariants.{Leaf, Interior}
use Rattle.btree.specs.image.Broken.{BlamesMet}
use Rattle.btree.specs.image.Entries.{IsAtPlace}
use Rattle.btree.specs.image.Pages.{Pages, pages_seen}
use Rattle.btree.specs.image.Search.{IsBoundary}
use Rattle.btree.specs.image.Tree.{HasHeader, IsMetAt, child_at, count_at}
use Rattle.btree.proofs.SeenLemmas.{still_steady, same_pages, readable}
use Rattle.btree_cursor.specs.index_entries.Entries.{AreValuesOf, BreaksEntry}
use Rattle.btree_cursor.specs.index_entries.Sought.{comes_before}
use Rattle.btree_cursor.specs.cursor.Rest.{Holds}
use Rattle.btree_cursor.specs.cursor.Way.{StandsOn}
use Rattle.btree_cursor.proofs.lemmas.cursor.FindLemmas.{entry_begins, found_down, found_header, found_leaf, found_number, found_page, found_values, left_some, left_within, way_asks, way_deep, way_down, way_ends, way_first, way_short}
use Rattle.btree_cursor.proofs.lemmas.cursor.StandLemmas.{kept_met, stands_at, stands_met}
use Rattle.btree_cursor.proofs.lemmas.cursor.WayLemmas.{blames_child, blames_header}
use Rattle.btree_cursor.proofs.cursor.find.first_entry.Goals as goal

pub loop-above-init : goal.loop-above-init
loop-above-init g c = record {
  image = SameImage-none _;
  failures = refl;
  chained = λ steady whole. refl;
  number = c.requires;
  asks = omega arith;
  way = λ steady. way_first _ _ _;
  seeks = λ steady levels values index. entry_begins (pages_seen c.args.pager.now.state) c.args.key.now values levels c.args.root index;
  stands = λ steady. tt;
  within = tt;
}

pub returns-in_err-frame-clause-lands : goal.returns-in_err-frame-clause-lands
returns-in_err-frame-clause-lands g c = λ steady levels values index.
    let p = err_from_is_err_and c.from_residual.result c.from_residual.ensures.1 in
    let inv = c.loop-above.invariant in
    let header = found_header (pages_seen c.args.pager.now.state) c.args.key.now values levels c.args.root index c.loop-above.number c.loop-above.left (inv.seeks steady levels values index) in
    rw (p.1, p.2)
    (c.in_err-frame.ensures.sound (still_steady _ _ inv.image steady) header.0
    (subst (λ (x : Pages). HasHeader x Index header.0 c.loop-above.number) (sym (same_pages _ _ inv.image)) header.1))

pub returns-in_err-at-clause-lands : goal.returns-in_err-at-clause-lands
returns-in_err-at-clause-lands g c = λ steady levels values index.
    let p = err_from_is_err_and c.from_residual-in_err-at.result c.from_residual-in_err-at.ensures.1 in
    let inv = c.loop-above.invariant in
    let stays = SameImage-trans _ _ _ inv.image c.read_frame.ensures.reads.image in
    let same = same_pages _ _ inv.image in
    let told = c.in_ok-frame.ensures.seen (still_steady _ _ inv.image steady) in
    let holds = subst (λ (x : Pages). Holds x c.in_ok-frame.frame) same told.0 in
    let header = subst (λ (x : Pages). HasHeader x Index c.in_ok-frame.frame.level c.loop-above.number) same told.1 in
    let sound = subst (λ (x : Pages). Holds x c.in_ok-frame.frame → AreValuesOf x values c.in_ok-frame.frame.level c.in_ok-frame.frame.number → IsReadFault c.in_err-at.field-0.0)
    (same_pages _ _ stays) (c.in_err-at.ensures.found (still_steady _ _ stays steady) c.in_ok-frame.frame.level values) in
    rw (p.1, p.2) (sound holds (found_values (pages_seen c.args.pager.now.state) c.args.key.now values levels c.args.root index c.loop-above.number c.loop-above.left (inv.seeks steady levels values index)
    c.in_ok-frame.frame c.in_ok-frame.ensures.number c.in_ok-frame.frame.level header))

pub returns-in-Leaf-clause-lands : goal.returns-in-Leaf-clause-lands
returns-in-Leaf-clause-lands g c = λ steady levels values index.
    let inv = c.loop-above.invariant in
    let seen = pages_seen c.args.pager.now.state in
    let stays = SameImage-trans _ _ _ inv.image c.read_frame.ensures.reads.image in
    let same = same_pages _ _ inv.image in
    let told = c.in_ok-frame.ensures.seen (still_steady _ _ inv.image steady) in
    let holds = subst (λ (x : Pages). Holds x c.in_ok-frame.frame) same told.0 in
    let header = subst (λ (x : Pages). HasHeader x Index Leaf c.loop-above.number) same (rw c.in-Leaf.is at told.1) in
    let s = inv.seeks steady levels values index in
    let boundary = subst (λ (x : Pages). Holds x c.in_ok-frame.frame → AreValuesOf x values Leaf c.in_ok-frame.frame.number
    → IsBoundary IsAtPlace (λ place. comes_before c.args.key.now (values place)) x Index Leaf c.in_ok-frame.frame.number c.in_ok-at.at)
    (same_pages _ _ stays) (c.in_ok-at.ensures.found (still_steady _ _ stays steady) Leaf values) holds
    (found_values seen c.args.key.now values levels c.args.root index c.loop-above.number c.loop-above.left s c.in_ok-frame.frame c.in_ok-frame.ensures.number Leaf header) in
    found_leaf seen c.args.key.now values levels c.args.root index c.loop-above.number c.loop-above.left s c.in_ok-frame.frame c.in_ok-frame.ensures.number holds c.in_ok-at.at
    c.entry_left.result c.entry_left.ensures.own c.entry_left.ensures.above header boundary

pub returns-in_default-clause-lands : goal.returns-in_default-clause-lands
returns-in_default-clause-lands g c = λ steady levels values index.
    let inv = c.loop-above.invariant in
    let seen = pages_seen c.args.pager.now.state in
    let stays = SameImage-trans _ _ _ inv.image c.read_frame.ensures.reads.image in
    let same = same_pages _ _ inv.image in
    let is : c.header-header.result ≡ c.args.pager.now.state.header = c.header-header.ensures.is in
    let told = c.in_ok-frame.ensures.seen (still_steady _ _ inv.image steady) in
    let holds = subst (λ (x : Pages). Holds x c.in_ok-frame.frame) same told.0 in
    let header = subst (λ (x : Pages). HasHeader x Index Interior c.loop-above.number) same (rw c.in-Interior.is at told.1) in
    let s = inv.seeks steady levels values index in
    let boundary = subst (λ (x : Pages). Holds x c.in_ok-frame.frame → AreValuesOf x values Interior c.in_ok-frame.frame.number
    → IsBoundary IsAtPlace (λ place. comes_before c.args.key.now (values place)) x Index Interior c.in_ok-frame.frame.number c.in_ok-at.at)
    (same_pages _ _ stays) (c.in_ok-at.ensures.found (still_steady _ _ stays steady) Interior values) holds
    (found_values seen c.args.key.now values levels c.args.root index c.loop-above.number c.loop-above.left s c.in_ok-frame.frame c.in_ok-frame.ensures.number Interior header) in
    let page = found_page seen c.args.key.now values levels c.args.root index c.loop-above.number c.loop-above.left s c.in_ok-frame.frame c.in_ok-frame.ensures.number Interior header in
    let number = found_number seen c.args.key.now values levels c.args.root index c.loop-above.number c.loop-above.left s c.in_ok-frame.frame c.in_ok-frame.ensures.number holds c.in_ok-at.at c.in-Interior.is header boundary in
    let e = c.in_default.ensures.found seen holds (readable _ _ (subst (λ (x : Header). IsSoundHeader x) is c.header-header.ensures.sound))
    (ap (λ (x : Header). x.usable) (sym is)) (ap (λ (x : Header). x.pages) (sym is)) page boundary.within number in cc

pub returns-clause-lands : goal.returns-clause-lands
returns-clause-lands g c = λ steady levels values index.
    let end : 20 ≤ c.loop-above._above = search rules in
    absurd (way_short _ _ _ _ _ _ (c.loop-above.invariant.way steady) index.tree end)

pub loop-above-preserved : goal.loop-above-preserved
loop-above-preserved g c =
    let inv = c.loop-above.invariant in
    let seen = pages_seen c.args.pager.now.state in
    let same = same_pages _ _ inv.image in
    let is : c.header-header.result ≡ c.args.pager.now.state.header = c.header-header.ensures.is in
    let first = SameImage-trans _ _ _ inv.image c.read_frame.ensures.reads.image in
    let stays = SameImage-trans _ _ _ first c.entries_before.ensures.reads.chains.image in
    record {
      image = stays;
      failures = c.in_ok-at.ensures.reads.failures ∙ c.in_ok-frame.ensures.reads.failures ∙ inv.failures;
      chained = λ steady whole.
          let told = c.in_ok-frame.ensures.seen (still_steady _ _ inv.image steady) in
          let local = kept_met seen _ _ same (same_pages _ _ first) c.args.root c.loop-above.number c.in_ok-frame.frame c.in_ok-frame.ensures.number told.0 told.1 whole
          (c.loop-above._above + 1) (inv.way steady).met _ (c.entries_before.ensures.local (still_steady _ _ first steady)) in
          ap (λ (x : PagerState). x.chained) local ∙ c.read_frame.ensures.reads.unchained ∙ inv.chained steady whole;
      number = (c.in-Some.ensures.number.0, subst (λ (x : Header). c.in-Some.child ≤ x.pages) (is ∙ sym stays.header) c.in-Some.ensures.number.1);
      asks = omega (arith, inv.asks, c.read_frame.ensures.asked, c.entries_before.ensures.reads.chains.unasked);
      way = λ steady.
          let holds = subst (λ (x : Pages). Holds x c.in_ok-frame.frame) same (c.in_ok-frame.ensures.seen (still_steady _ _ inv.image steady)).0 in
          let named = c.in-Some.ensures.named seen holds (ap (λ (x : Header). x.usable) (sym is)) (ap (λ (x : Header). x.pages) (sym is)) in
          way_down seen Index c.args.root c.loop-above._above c.loop-above.number c.in_ok-at.at c.in-Some.child (inv.way steady) (rw c.in_ok-frame.ensures.number at named);
      seeks = λ steady levels values index.
          let told = c.in_ok-frame.ensures.seen (still_steady _ _ inv.image steady) in
          let holds = subst (λ (x : Pages). Holds x c.in_ok-frame.frame) same told.0 in
          let header = subst (λ (x : Pages). HasHeader x Index Interior c.loop-above.number) same (rw c.in-Interior.is at told.1) in
          let s = inv.seeks steady levels values index in
          let boundary = subst (λ (x : Pages). Holds x c.in_ok-frame.frame → AreValuesOf x values Interior c.in_ok-frame.frame.number
          → IsBoundary IsAtPlace (λ place. comes_before c.args.key.now (values place)) x Index Interior c.in_ok-frame.frame.number c.in_ok-at.at)
          (same_pages _ _ first) (c.in_ok-at.ensures.found (still_steady _ _ first steady) Interior values) holds
          (found_values seen c.args.key.now values levels c.args.root index c.loop-above.number c.loop-above.left s c.in_ok-frame.frame c.in_ok-frame.ensures.number Interior header) in
          let named = c.in-Some.ensures.named seen holds (ap (λ (x : Header). x.usable) (sym is)) (ap (λ (x : Header). x.pages) (sym is)) in
          let child : c.in-Some.child ≡ child_at seen c.in_ok-frame.frame.number c.in_ok-at.at = sym named.is in
          rw child (found_down seen c.args.key.now values levels c.args.root index c.loop-above.number c.loop-above.left s c.in_ok-frame.frame c.in_ok-frame.ensures.number holds c.in_ok-at.at
          c.entry_left-left.result c.entry_left-left.ensures.own c.entry_left-left.ensures.above c.in-Interior.is header boundary);
      stands = λ steady.
          let told = c.in_ok-frame.ensures.seen (still_steady _ _ inv.image steady) in
          let holds = subst (λ (x : Pages). Holds x c.in_ok-frame.frame) same told.0 in
          let header = subst (λ (x : Pages). HasHeader x Index c.in_ok-frame.frame.level c.loop-above.number) same told.1 in
          left_some c.in_ok-frame.frame c.in_ok-at.at c.loop-above.left c.entry_left-left.result c.entry_left-left.ensures.own c.entry_left-left.ensures.above (StandsOn seen Index c.args.root)
          (stands_at _ _ _ _ _ (stands_met _ _ _ _ _ c.in_ok-frame.frame.level _ c.in_ok-frame.ensures.number (inv.way steady).met holds header tt)) (inv.stands steady);
      within = left_within c.in_ok-frame.frame c.in_ok-at.at c.loop-above.left c.entry_left-left.result c.entry_left-left.ensures.own c.entry_left-left.ensures.above inv.within;
    }

pub returns-in_err-frame-clause-way : goal.returns-in_err-frame-clause-way
returns-in_err-frame-clause-way g c = λ steady.
    let p = err_from_is_err_and c.from_residual.result c.from_residual.ensures.1 in
    let inv = c.loop-above.invariant in
    let same = same_pages _ _ inv.image in
    rw (p.1, p.2)
    (elim c.in_err-frame.ensures.fault [
      | inl read ↦ inl read
      | inr page ↦ inr (inl (subst (λ (x : Fault). BlamesMet (pages_seen c.args.pager.now.state) Index c.args.root x) (sym page)
          (blames_header _ _ _ _ _ (inv.way steady).met (λ level header.
          elim (c.in_err-frame.ensures.sound (still_steady _ _ inv.image steady) level (subst (λ (x : Pages). HasHeader x Index level c.loop-above.number) (sym same) header)) [
            | inl failed ↦ cc
            | inr memory ↦ cc
          ]))))
    ])

pub returns-in_err-at-clause-way : goal.returns-in_err-at-clause-way
returns-in_err-at-clause-way g c = λ steady.
    let p = err_from_is_err_and c.from_residual-in_err-at.result c.from_residual-in_err-at.ensures.1 in
    let inv = c.loop-above.invariant in
    let seen = pages_seen c.args.pager.now.state in
    let stays = SameImage-trans _ _ _ inv.image c.read_frame.ensures.reads.image in
    let same = same_pages _ _ inv.image in
    let told = c.in_ok-frame.ensures.seen (still_steady _ _ inv.image steady) in
    let holds = subst (λ (x : Pages). Holds x c.in_ok-frame.frame) same told.0 in
    let header = subst (λ (x : Pages). HasHeader x Index c.in_ok-frame.frame.level c.loop-above.number) same told.1 in
    let level = c.in_ok-frame.frame.level in
    let n = c.in_ok-frame.frame.number in
    let number : n ≡ c.loop-above.number = c.in_ok-frame.ensures.number in
    let broken = subst (λ (x : Pages). Holds x c.in_ok-frame.frame → HasHeader x Index level n → IsReadFault c.in_err-at.field-0.0 ⊎ BreaksEntry x level n c.in_err-at.field-0.0)
    (same_pages _ _ stays) (c.in_err-at.ensures.broken (still_steady _ _ stays steady) level) holds (subst (λ (k : ℕ). HasHeader seen Index level k) (sym number) header) in
    rw (p.1, p.2)
    (elim broken [
      | inl read ↦ inl read
      | inr entry ↦ inr (inr (
        c.loop-above._above + 1,
        n,
        level,
        subst (λ (k : ℕ). IsMetAt seen Index c.args.root (c.loop-above._above + 1) k) (sym number) (inv.way steady).met,
        subst (λ (k : ℕ). HasHeader seen Index level k) (sym number) header,
        entry,
      ))
    ])

pub returns-in-Leaf-clause-way : goal.returns-in-Leaf-clause-way
returns-in-Leaf-clause-way g c = λ steady.
    let inv = c.loop-above.invariant in
    let seen = pages_seen c.args.pager.now.state in
    let same = same_pages _ _ inv.image in
    let told = c.in_ok-frame.ensures.seen (still_steady _ _ inv.image steady) in
    let holds = subst (λ (x : Pages). Holds x c.in_ok-frame.frame) same told.0 in
    let header = subst (λ (x : Pages). HasHeader x Index c.in_ok-frame.frame.level c.loop-above.number) same told.1 in
    left_some c.in_ok-frame.frame c.in_ok-at.at c.loop-above.left c.entry_left.result c.entry_left.ensures.own c.entry_left.ensures.above (StandsOn seen Index c.args.root)
    (stands_at _ _ _ _ _ (stands_met _ _ _ _ _ c.in_ok-frame.frame.level _ c.in_ok-frame.ensures.number (inv.way steady).met holds header tt)) (inv.stands steady)

pub returns-in-Leaf-clause-within : goal.returns-in-Leaf-clause-within
returns-in-Leaf-clause-within g c =
    left_within c.in_ok-frame.frame c.in_ok-at.at c.loop-above.left c.entry_left.result c.entry_left.ensures.own c.entry_left.ensures.above c.loop-above.invariant.within

pub returns-in_default-clause-way : goal.returns-in_default-clause-way
returns-in_default-clause-way g c = λ steady.
    let inv = c.loop-above.invariant in
    let seen = pages_seen c.args.pager.now.state in
    let stays = SameImage-trans _ _ _ inv.image c.read_frame.ensures.reads.image in
    let same = same_pages _ _ inv.image in
    let is : c.header-header.result ≡ c.args.pager.now.state.header = c.header-header.ensures.is in
    let told = c.in_ok-frame.ensures.seen (still_steady _ _ inv.image steady) in
    let holds = subst (λ (x : Pages). Holds x c.in_ok-frame.frame) same told.0 in
    let header = subst (λ (x : Pages). HasHeader x Index Interior c.loop-above.number) same (rw c.in-Interior.is at told.1) in
    let n = c.in_ok-frame.frame.number in
    let number : n ≡ c.loop-above.number = c.in_ok-frame.ensures.number in
    let within = subst (λ (x : Pages). Holds x c.in_ok-frame.frame → c.in_ok-at.at ≤ count_at x n) (same_pages _ _ stays) (c.in_ok-at.ensures.within (still_steady _ _ stays steady)) holds in
    inr (inl (subst (λ (k : ℕ). BlamesMet seen Index c.args.root (BadPage k)) number (blames_child seen Index c.args.root _ n c.in_ok-at.at
    (subst (λ (k : ℕ). IsMetAt seen Index c.args.root (c.loop-above._above + 1) k) (sym number) (inv.way steady).met)
    (subst (λ (k : ℕ). HasHeader seen Index Interior k) (sym number) header) within (λ page child.
    let e = c.in_default.ensures.found seen holds (readable _ _ (subst (λ (x : Header). IsSoundHeader x) is c.header-header.ensures.sound))
    (ap (λ (x : Header). x.usable) (sym is)) (ap (λ (x : Header). x.pages) (sym is)) page within child in cc))))

pub returns-clause-way : goal.returns-clause-way
returns-clause-way g c = λ steady.
    let end : 20 ≤ c.loop-above._above = search rules in
    inr (inl (way_deep _ _ _ _ _ (c.loop-above.invariant.way steady) end))

pub returns-in_err-frame-clause-asks : goal.returns-in_err-frame-clause-asks
returns-in_err-frame-clause-asks g c =
    way_asks _ _ _ _ c.loop-above._above _ c.loop-above.invariant.way (omega arith) (omega (arith, c.loop-above.invariant.asks, c.read_frame.ensures.asked))

pub returns-in_err-at-clause-asks : goal.returns-in_err-at-clause-asks
returns-in_err-at-clause-asks g c =
    way_asks _ _ _ _ c.loop-above._above _ c.loop-above.invariant.way (omega arith)
    (omega (arith, c.loop-above.invariant.asks, c.read_frame.ensures.asked, c.entries_before.ensures.reads.chains.unasked))

pub returns-in-Leaf-clause-asks : goal.returns-in-Leaf-clause-asks
returns-in-Leaf-clause-asks g c =
    way_asks _ _ _ _ c.loop-above._above _ c.loop-above.invariant.way (omega arith)
    (omega (arith, c.loop-above.invariant.asks, c.read_frame.ensures.asked, c.entries_before.ensures.reads.chains.unasked))

pub returns-in_default-clause-asks : goal.returns-in_default-clause-asks
returns-in_default-clause-asks g c =
    way_asks _ _ _ _ c.loop-above._above _ c.loop-above.invariant.way (omega arith)
    (omega (arith, c.loop-above.invariant.asks, c.read_frame.ensures.asked, c.entries_before.ensures.reads.chains.unasked))

pub returns-clause-asks : goal.returns-clause-asks
returns-clause-asks g c =
    let end : 20 ≤ c.loop-above._above = search rules in
    let most : c.loop-above._above ≤ 20 = search rules in
    way_ends _ _ _ _ c.loop-above._above _ c.loop-above.invariant.way (omega arith) (omega (arith, c.loop-above.invariant.asks))

pub returns-in_err-at-clause-unchained : goal.returns-in_err-at-clause-unchained
returns-in_err-at-clause-unchained g c = λ steady whole.
    let inv = c.loop-above.invariant in
    let stays = SameImage-trans _ _ _ inv.image c.read_frame.ensures.reads.image in
    let told = c.in_ok-frame.ensures.seen (still_steady _ _ inv.image steady) in
    let local = kept_met (pages_seen c.args.pager.now.state) _ _ (same_pages _ _ inv.image) (same_pages _ _ stays) c.args.root c.loop-above.number
    c.in_ok-frame.frame c.in_ok-frame.ensures.number told.0 told.1 whole (c.loop-above._above + 1) (inv.way steady).met _
    (c.entries_before.ensures.local (still_steady _ _ stays steady)) in
    ap (λ (x : PagerState). x.chained) local ∙ c.read_frame.ensures.reads.unchained ∙ inv.chained steady whole

pub returns-in-Leaf-clause-unchained : goal.returns-in-Leaf-clause-unchained
returns-in-Leaf-clause-unchained g c = λ steady whole.
    let inv = c.loop-above.invariant in
    let stays = SameImage-trans _ _ _ inv.image c.read_frame.ensures.reads.image in
    let told = c.in_ok-frame.ensures.seen (still_steady _ _ inv.image steady) in
    let local = kept_met (pages_seen c.args.pager.now.state) _ _ (same_pages _ _ inv.image) (same_pages _ _ stays) c.args.root c.loop-above.number
    c.in_ok-frame.frame c.in_ok-frame.ensures.number told.0 told.1 whole (c.loop-above._above + 1) (inv.way steady).met _
    (c.entries_before.ensures.local (still_steady _ _ stays steady)) in
    ap (λ (x : PagerState). x.chained) local ∙ c.read_frame.ensures.reads.unchained ∙ inv.chained steady whole

pub returns-in_default-clause-unchained : goal.returns-in_default-clause-unchained
returns-in_default-clause-unchained g c = λ steady whole.
    let inv = c.loop-above.invariant in
    let stays = SameImage-trans _ _ _ inv.image c.read_frame.ensures.reads.image in
    let told = c.in_ok-frame.ensures.seen (still_steady _ _ inv.image steady) in
    let local = kept_met (pages_seen c.args.pager.now.state) _ _ (same_pages _ _ inv.image) (same_pages _ _ stays) c.args.root c.loop-above.number
    c.in_ok-frame.frame c.in_ok-frame.ensures.number told.0 told.1 whole (c.loop-above._above + 1) (inv.way steady).met _
    (c.entries_before.ensures.local (still_steady _ _ stays steady)) in
    ap (λ (x : PagerState). x.chained) local ∙ c.read_frame.ensures.reads.unchained ∙ inv.chained steady whole

pub returns-in_err-frame-clause-unchained : goal.returns-in_err-frame-clause-unchained
returns-in_err-frame-clause-unchained g c = λ steady whole. c.read_frame.ensures.reads.unchained ∙ c.loop-above.invariant.chained steady whole
