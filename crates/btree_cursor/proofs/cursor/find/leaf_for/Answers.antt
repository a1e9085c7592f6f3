use Rattle.std.proofs.Common.{refl, inl, inr, ℕ, ◌≡◌, ◌+◌, ◌≤◌, arith, sym, ◌∙◌, ap, subst, w64, SFits, rules}
use Rattle.std.proofs.lemmas.Int.{to_z-of_z}
use Rattle.std.proofs.lemmas.Result.{err_from_is_err_and}
use Rattle.values.specs.declared.fault.Fault.{Fault}
use Rattle.values.specs.declared.fault.Fault.TheVariants.{BadPage}
use Rattle.pager.specs.declared.header.Header.{Header}
use Rattle.pager.specs.PagerState.{IsSoundHeader, image_size}
use Rattle.pager.proofs.CallLemmas.{SameImage-none, SameImage-trans}
use Rattle.btree.specs.declared.image.kind.TreeKind.TheVariants.{Table}
use Rattle.btree.specs.declared.image.kind.Level.TheVariants.{Leaf, Interior}
use Rattle.btree.specs.image.Broken.{BlamesMet}
use Rattle.btree.specs.image.Pages.{Pages, pages_seen}
use Rattle.btree.specs.image.Tree.{HasHeader, IsMetAt, IsPageOf, child_at, count_at}
use Rattle.btree.proofs.SeenLemmas.{still_steady, same_pages, readable}
use Rattle.btree_cursor.specs.cursor.Rest.{Holds}
use Rattle.btree_cursor.proofs.lemmas.cursor.FindLemmas.{finding_down, finding_header, finding_leaf, finding_page, row_begins, way_asks, way_deep, way_down, way_ends, way_first, way_short}
use Rattle.btree_cursor.proofs.lemmas.cursor.StandLemmas.{stands_at, stands_met}
use Rattle.btree_cursor.proofs.lemmas.cursor.WayLemmas.{blames_child, blames_header, blames_page}
use Rattle.btree_cursor.proofs.cursor.find.leaf_for.Goals as goal

pub loop-above-init : goal.loop-above-init
loop-above-init g c = record {
  image = SameImage-none _;
  failures = refl;
  chained = refl;
  number = c.requires;
  asks = omega arith;
  way = λ steady. way_first _ _ _;
  seeks = λ steady levels table.
      let fits : SFits w64 c.args.rowid = search rules in
      rw (to_z-of_z w64 c.args.rowid fits) (row_begins (pages_seen c.args.pager.now.state) c.args.root c.args.rowid levels table.order table.tree);
}

pub returns-in_err-frame-clause-lands : goal.returns-in_err-frame-clause-lands
returns-in_err-frame-clause-lands g c = λ steady levels table.
    let p = err_from_is_err_and c.from_residual.result c.from_residual.ensures.1 in
    let inv = c.loop-above.invariant in
    let header = finding_header _ _ _ _ _ _ (inv.seeks steady levels table) in
    rw (p.1, p.2)
    (c.in_err-frame.ensures.sound (still_steady _ _ inv.image steady) header.0
    (subst (λ (x : Pages). HasHeader x Table header.0 c.loop-above.number) (sym (same_pages _ _ inv.image)) header.1))

pub returns-in_default-clause-lands : goal.returns-in_default-clause-lands
returns-in_default-clause-lands g c = λ steady levels table.
    let inv = c.loop-above.invariant in
    let now = still_steady _ _ inv.image steady in
    let same = same_pages _ _ inv.image in
    let seen = pages_seen c.args.pager.now.state in
    let is : c.header-header.result ≡ c.args.pager.now.state.header = c.header-header.ensures.is in
    let holds = subst (λ (x : Pages). Holds x c.in_ok-frame.frame) same (c.in_ok-frame.ensures.seen now).0 in
    let header = subst (λ (x : Pages). HasHeader x Table c.in_ok-frame.frame.level c.loop-above.number) same (c.in_ok-frame.ensures.seen now).1 in
    let page = finding_page _ _ _ _ _ _ (inv.seeks steady levels table) c.in_ok-frame.frame c.in_ok-frame.ensures.number c.in_ok-frame.frame.level header in
    let e = c.in_default.ensures.sure seen c.in_ok-frame.frame.level holds (readable _ _ (subst (λ (x : Header). IsSoundHeader x) is c.header-header.ensures.sound))
    (ap (λ (x : Header). x.usable) (sym is)) (ap image_size (sym is) ∙ sym c.image_size-most.ensures) page in cc

pub returns-in-Leaf-clause-lands : goal.returns-in-Leaf-clause-lands
returns-in-Leaf-clause-lands g c = λ steady levels table.
    let inv = c.loop-above.invariant in
    let now = still_steady _ _ inv.image steady in
    let same = same_pages _ _ inv.image in
    let seen = pages_seen c.args.pager.now.state in
    let is : c.header-header.result ≡ c.args.pager.now.state.header = c.header-header.ensures.is in
    let holds = subst (λ (x : Pages). Holds x c.in_ok-frame.frame) same (c.in_ok-frame.ensures.seen now).0 in
    let header = subst (λ (x : Pages). HasHeader x Table Leaf c.loop-above.number) same (rw c.in-Leaf.is at (c.in_ok-frame.ensures.seen now).1) in
    let s = inv.seeks steady levels table in
    let page = finding_page _ _ _ _ _ _ s c.in_ok-frame.frame c.in_ok-frame.ensures.number Leaf header in
    let fits : SFits w64 c.args.rowid = search rules in
    rw (to_z-of_z w64 c.args.rowid fits) at (finding_leaf _ _ _ _ _ _ s c.in_ok-frame.frame c.in_ok-frame.ensures.number holds c.in-Some.at table.tree header
    (c.in-Some.ensures.found seen Leaf holds (ap (λ (x : Header). x.usable) (sym is)) page))

pub returns-in_default-child_of-clause-lands : goal.returns-in_default-child_of-clause-lands
returns-in_default-child_of-clause-lands g c = λ steady levels table.
    let inv = c.loop-above.invariant in
    let now = still_steady _ _ inv.image steady in
    let same = same_pages _ _ inv.image in
    let seen = pages_seen c.args.pager.now.state in
    let is : c.header-header.result ≡ c.args.pager.now.state.header = c.header-header.ensures.is in
    let holds = subst (λ (x : Pages). Holds x c.in_ok-frame.frame) same (c.in_ok-frame.ensures.seen now).0 in
    let header = subst (λ (x : Pages). HasHeader x Table Interior c.loop-above.number) same (rw c.in-Interior.is at (c.in_ok-frame.ensures.seen now).1) in
    let s = inv.seeks steady levels table in
    let page = finding_page _ _ _ _ _ _ s c.in_ok-frame.frame c.in_ok-frame.ensures.number Interior header in
    let b = c.in-Some.ensures.found seen Interior holds (ap (λ (x : Header). x.usable) (sym is)) page in
    let down = finding_down _ _ _ _ _ _ s c.in_ok-frame.frame c.in_ok-frame.ensures.number holds c.in-Some.at c.in-Interior.is header b in
    let e = c.in_default-child_of.ensures.found seen holds (readable _ _ (subst (λ (x : Header). IsSoundHeader x) is c.header-header.ensures.sound))
    (ap (λ (x : Header). x.usable) (sym is)) (ap (λ (x : Header). x.pages) (sym is)) page b.within down.seeks.heading.number in cc

pub loop-above-preserved : goal.loop-above-preserved
loop-above-preserved g c =
    let inv = c.loop-above.invariant in
    let seen = pages_seen c.args.pager.now.state in
    let same = same_pages _ _ inv.image in
    let is : c.header-header.result ≡ c.args.pager.now.state.header = c.header-header.ensures.is in
    let stays = SameImage-trans _ _ _ inv.image c.read_frame.ensures.reads.image in
    record {
      image = stays;
      failures = c.in_ok-frame.ensures.reads.failures ∙ inv.failures;
      chained = c.read_frame.ensures.reads.unchained ∙ inv.chained;
      number = (c.in-Some-child_of.ensures.number.0, subst (λ (x : Header). c.in-Some-child_of.child ≤ x.pages) (is ∙ sym stays.header) c.in-Some-child_of.ensures.number.1);
      asks = omega (arith, inv.asks, c.read_frame.ensures.asked);
      way = λ steady.
          let holds = subst (λ (x : Pages). Holds x c.in_ok-frame.frame) same (c.in_ok-frame.ensures.seen (still_steady _ _ inv.image steady)).0 in
          let named = c.in-Some-child_of.ensures.named seen holds (ap (λ (x : Header). x.usable) (sym is)) (ap (λ (x : Header). x.pages) (sym is)) in
          way_down seen Table c.args.root c.loop-above._above c.loop-above.number c.in-Some.at c.in-Some-child_of.child (inv.way steady) (rw c.in_ok-frame.ensures.number at named);
      seeks = λ steady levels table.
          let now = still_steady _ _ inv.image steady in
          let holds = subst (λ (x : Pages). Holds x c.in_ok-frame.frame) same (c.in_ok-frame.ensures.seen now).0 in
          let header = subst (λ (x : Pages). HasHeader x Table Interior c.loop-above.number) same (rw c.in-Interior.is at (c.in_ok-frame.ensures.seen now).1) in
          let s = inv.seeks steady levels table in
          let page = finding_page _ _ _ _ _ _ s c.in_ok-frame.frame c.in_ok-frame.ensures.number Interior header in
          let b = c.in-Some.ensures.found seen Interior holds (ap (λ (x : Header). x.usable) (sym is)) page in
          let named = c.in-Some-child_of.ensures.named seen holds (ap (λ (x : Header). x.usable) (sym is)) (ap (λ (x : Header). x.pages) (sym is)) in
          let child : c.in-Some-child_of.child ≡ child_at seen c.in_ok-frame.frame.number c.in-Some.at = sym named.is in
          rw child (finding_down _ _ _ _ _ _ s c.in_ok-frame.frame c.in_ok-frame.ensures.number holds c.in-Some.at c.in-Interior.is header b);
    }

pub returns-clause-lands : goal.returns-clause-lands
returns-clause-lands g c = λ steady levels table.
    let end : 20 ≤ c.loop-above._above = search rules in
    absurd (way_short _ _ _ _ _ _ (c.loop-above.invariant.way steady) table.tree end)

pub returns-in_err-frame-clause-way : goal.returns-in_err-frame-clause-way
returns-in_err-frame-clause-way g c = λ steady.
    let p = err_from_is_err_and c.from_residual.result c.from_residual.ensures.1 in
    let inv = c.loop-above.invariant in
    let same = same_pages _ _ inv.image in
    rw (p.1, p.2)
    (elim c.in_err-frame.ensures.fault [
      | inl read ↦ inl read
      | inr page ↦ inr (subst (λ (x : Fault). BlamesMet (pages_seen c.args.pager.now.state) Table c.args.root x) (sym page)
          (blames_header _ _ _ _ _ (inv.way steady).met (λ level header.
          elim (c.in_err-frame.ensures.sound (still_steady _ _ inv.image steady) level (subst (λ (x : Pages). HasHeader x Table level c.loop-above.number) (sym same) header)) [
            | inl failed ↦ cc
            | inr memory ↦ cc
          ])))
    ])

pub returns-in_default-clause-way : goal.returns-in_default-clause-way
returns-in_default-clause-way g c = λ steady.
    let inv = c.loop-above.invariant in
    let now = still_steady _ _ inv.image steady in
    let same = same_pages _ _ inv.image in
    let seen = pages_seen c.args.pager.now.state in
    let is : c.header-header.result ≡ c.args.pager.now.state.header = c.header-header.ensures.is in
    let holds = subst (λ (x : Pages). Holds x c.in_ok-frame.frame) same (c.in_ok-frame.ensures.seen now).0 in
    inr (blames_page seen Table _ _ _ (inv.way steady).met (λ level page.
    let e = c.in_default.ensures.sure seen level holds (readable _ _ (subst (λ (x : Header). IsSoundHeader x) is c.header-header.ensures.sound))
    (ap (λ (x : Header). x.usable) (sym is)) (ap image_size (sym is) ∙ sym c.image_size-most.ensures)
    (subst (λ (n : ℕ). IsPageOf seen Table level n) (sym c.in_ok-frame.ensures.number) page) in cc))

pub returns-in-Leaf-clause-way : goal.returns-in-Leaf-clause-way
returns-in-Leaf-clause-way g c = λ steady.
    let inv = c.loop-above.invariant in
    let same = same_pages _ _ inv.image in
    let seen = c.in_ok-frame.ensures.seen (still_steady _ _ inv.image steady) in
    let holds = subst (λ (x : Pages). Holds x c.in_ok-frame.frame) same seen.0 in
    let header = subst (λ (x : Pages). HasHeader x Table Leaf c.loop-above.number) same (rw c.in-Leaf.is at seen.1) in
    stands_at _ _ _ _ _ (stands_met _ _ _ _ _ Leaf _ c.in_ok-frame.ensures.number (inv.way steady).met holds header tt)

pub returns-in_default-child_of-clause-way : goal.returns-in_default-child_of-clause-way
returns-in_default-child_of-clause-way g c = λ steady.
    let inv = c.loop-above.invariant in
    let now = still_steady _ _ inv.image steady in
    let same = same_pages _ _ inv.image in
    let seen = pages_seen c.args.pager.now.state in
    let is : c.header-header.result ≡ c.args.pager.now.state.header = c.header-header.ensures.is in
    let n = c.in_ok-frame.frame.number in
    let number : n ≡ c.loop-above.number = c.in_ok-frame.ensures.number in
    let holds = subst (λ (x : Pages). Holds x c.in_ok-frame.frame) same (c.in_ok-frame.ensures.seen now).0 in
    let header = subst (λ (x : Pages). HasHeader x Table Interior c.loop-above.number) same (rw c.in-Interior.is at (c.in_ok-frame.ensures.seen now).1) in
    let within : c.in-Some.at ≤ count_at seen n = c.in-Some.ensures.within seen holds (ap (λ (x : Header). x.usable) (sym is)) in
    inr (subst (λ (k : ℕ). BlamesMet seen Table c.args.root (BadPage k)) number (blames_child seen Table c.args.root _ n c.in-Some.at
    (subst (λ (k : ℕ). IsMetAt seen Table c.args.root (c.loop-above._above + 1) k) (sym number) (inv.way steady).met)
    (subst (λ (k : ℕ). HasHeader seen Table Interior k) (sym number) header) within (λ page child.
    let e = c.in_default-child_of.ensures.found seen holds (readable _ _ (subst (λ (x : Header). IsSoundHeader x) is c.header-header.ensures.sound))
    (ap (λ (x : Header). x.usable) (sym is)) (ap (λ (x : Header). x.pages) (sym is)) page within child in cc)))

pub returns-clause-way : goal.returns-clause-way
returns-clause-way g c = λ steady.
    let end : 20 ≤ c.loop-above._above = search rules in
    inr (way_deep _ _ _ _ _ (c.loop-above.invariant.way steady) end)

pub returns-in_err-frame-clause-asks : goal.returns-in_err-frame-clause-asks
returns-in_err-frame-clause-asks g c =
    way_asks _ _ _ _ c.loop-above._above _ c.loop-above.invariant.way (omega arith) (omega (arith, c.loop-above.invariant.asks, c.read_frame.ensures.asked))

pub returns-in_default-clause-asks : goal.returns-in_default-clause-asks
returns-in_default-clause-asks g c =
    way_asks _ _ _ _ c.loop-above._above _ c.loop-above.invariant.way (omega arith) (omega (arith, c.loop-above.invariant.asks, c.read_frame.ensures.asked))

pub returns-in-Leaf-clause-asks : goal.returns-in-Leaf-clause-asks
returns-in-Leaf-clause-asks g c =
    way_asks _ _ _ _ c.loop-above._above _ c.loop-above.invariant.way (omega arith) (omega (arith, c.loop-above.invariant.asks, c.read_frame.ensures.asked))

pub returns-in_default-child_of-clause-asks : goal.returns-in_default-child_of-clause-asks
returns-in_default-child_of-clause-asks g c =
    way_asks _ _ _ _ c.loop-above._above _ c.loop-above.invariant.way (omega arith) (omega (arith, c.loop-above.invariant.asks, c.read_frame.ensures.asked))

pub returns-clause-asks : goal.returns-clause-asks
returns-clause-asks g c =
    let end : 20 ≤ c.loop-above._above = search rules in
    let most : c.loop-above._above ≤ 20 = search rules in
    way_ends _ _ _ _ c.loop-above._above _ c.loop-above.invariant.way (omega arith) (omega (arith, c.loop-above.invariant.asks))
