use Rattle.std.proofs.Common.{refl, inl, inr, ℕ, ℤ, ◌≡◌, ◌+◌, ◌<◌, ◌≤◌, length, arith, sym, ◌∙◌, ap, subst, Some, w64, SFits, rules}
use Rattle.std.proofs.lemmas.Int.{to_z-of_z}
use Rattle.std.proofs.lemmas.List.{length_push}
use Rattle.std.proofs.lemmas.Result.{err_from_is_err_and}
use Rattle.pager.specs.declared.header.Header.{Header}
use Rattle.pager.specs.PagerState.{IsSoundHeader, image_size}
use Rattle.pager.proofs.CallLemmas.{SameImage-none, SameImage-trans}
use Rattle.btree.specs.declared.image.kind.TreeKind.TheVariants.{Table}
use Rattle.btree.specs.declared.image.kind.Level.TheVariants.{Leaf, Interior}
use Rattle.btree.specs.image.Pages.{Pages, pages_seen}
use Rattle.btree.specs.image.Tree.{HasHeader, IsMetAt, IsPageOf, child_at, count_at}
use Rattle.btree_cursor.specs.cursor.Rest.{Holds}
use Rattle.btree_cursor.specs.cursor.Search.{HasRowWith}
use Rattle.btree_cursor.proofs.lemmas.cursor.LeftLemmas.{left_down, left_leaf}
use Rattle.btree_cursor.proofs.lemmas.cursor.RowSeekLemmas.{row_down, row_first, row_header, row_leaf, row_next, row_page, row_short, row_there}
use Rattle.btree.proofs.SeenLemmas.{still_steady, same_pages, readable}
use Rattle.values.specs.declared.fault.Fault.{Fault}
use Rattle.values.specs.declared.fault.Fault.TheVariants.{BadPage}
use Rattle.btree.specs.image.Broken.{BlamesMet}
use Rattle.btree_cursor.proofs.lemmas.cursor.StandLemmas.{stands_at, stands_met}
use Rattle.btree_cursor.proofs.lemmas.cursor.WayLemmas.{blames_child, blames_depth, blames_header, blames_page, leads_down, leads_first, reached_leaf}
use Rattle.btree_cursor.proofs.cursor.cursor.seek_leaf.Goals as goal

pub loop-pager-init : goal.loop-pager-init
loop-pager-init g c = record {
  image = SameImage-none _;
  failures = refl;
  chained = refl;
  number = c.requires.root;
  seeks = λ steady levels table.
      let fits : SFits w64 c.args.key = search rules in
      rw (to_z-of_z w64 c.args.key fits) (row_first (pages_seen c.args.pager.now.state) c.args.root c.args.behind c.args.key levels table.order c.args.frames.now.items c.args.pager.now.state.asked table.tree.few table.tree.number table.tree.shape c.requires.top);
  way = λ steady. leads_first _ _ _ _ c.requires.top;
  asks = omega arith;
  left = omega arith;
}

pub returns-in_err-frame-clause-lands : goal.returns-in_err-frame-clause-lands
returns-in_err-frame-clause-lands g c = λ steady levels table.
    let p = err_from_is_err_and c.from_residual.result c.from_residual.ensures.1 in
    let inv = c.loop-pager.invariant in
    let header = row_header _ _ _ _ _ _ _ _ _ _ (inv.seeks steady levels table) in
    let same = same_pages _ _ inv.image in
    rw (p.1, p.2)
    (c.in_err-frame.ensures.sound (still_steady _ _ inv.image steady) header.0 (subst (λ (x : Pages). HasHeader x Table header.0 c.loop-pager.number) (sym same) header.1))

pub returns-in_default-clause-lands : goal.returns-in_default-clause-lands
returns-in_default-clause-lands g c = λ steady levels table.
    let inv = c.loop-pager.invariant in
    let now = still_steady _ _ inv.image steady in
    let same = same_pages _ _ inv.image in
    let seen = pages_seen c.args.pager.now.state in
    let holds = subst (λ (x : Pages). Holds x c.in_ok-frame.frame) same (c.in_ok-frame.ensures.seen now).0 in
    let header = subst (λ (x : Pages). HasHeader x Table c.in_ok-frame.frame.level c.loop-pager.number) same (c.in_ok-frame.ensures.seen now).1 in
    let same_header : c.header-header.result ≡ c.args.pager.now.state.header = c.header-header.ensures.is ∙ c.read_frame.ensures.reads.image.header ∙ inv.image.header in
    let page = row_page _ _ _ _ _ _ _ _ _ _ (inv.seeks steady levels table) c.in_ok-frame.frame c.in_ok-frame.ensures.number c.in_ok-frame.frame.level header in
    let e = c.in_default.ensures.sure seen c.in_ok-frame.frame.level holds (readable _ _ (subst (λ (x : Header). IsSoundHeader x) same_header c.header-header.ensures.sound))
    (ap (λ (x : Header). x.usable) (sym same_header)) (ap image_size (sym same_header) ∙ sym c.image_size.ensures) page in cc

pub returns-in-Leaf-clause-lands : goal.returns-in-Leaf-clause-lands
returns-in-Leaf-clause-lands g c = λ steady levels table.
    let inv = c.loop-pager.invariant in
    let now = still_steady _ _ inv.image steady in
    let same = same_pages _ _ inv.image in
    let seen = pages_seen c.args.pager.now.state in
    let holds = subst (λ (x : Pages). Holds x c.in_ok-frame.frame) same (c.in_ok-frame.ensures.seen now).0 in
    let header = subst (λ (x : Pages). HasHeader x Table Leaf c.loop-pager.number) same (rw c.in-Leaf.is at (c.in_ok-frame.ensures.seen now).1) in
    let same_header : c.header-header.result ≡ c.args.pager.now.state.header = c.header-header.ensures.is ∙ c.read_frame.ensures.reads.image.header ∙ inv.image.header in
    let s = inv.seeks steady levels table in
    let page = row_page _ _ _ _ _ _ _ _ _ _ s c.in_ok-frame.frame c.in_ok-frame.ensures.number Leaf header in
    let fits : SFits w64 c.args.key = search rules in
    rw (to_z-of_z w64 c.args.key fits) at (row_leaf _ _ _ _ _ _ _ _ _ _ s c.in_ok-frame.frame c.in_ok-frame.ensures.number holds c.in-Some.at _ c.read_frame.ensures.asked header
    (c.in-Some.ensures.found seen Leaf holds (ap (λ (x : Header). x.usable) (sym same_header)) page))

pub returns-in-Leaf-clause-left : goal.returns-in-Leaf-clause-left
returns-in-Leaf-clause-left g c =
    let inv = c.loop-pager.invariant in
    let short : length c.loop-pager.frames.items < 20 = omega (arith, c.loop-pager.frames.ok.0) in
    let leaf = left_leaf c.loop-pager.frames.items (record c.in_ok-frame.frame { at = c.in-Some.at }) short c.in_ok-frame.ensures.small in
    omega (arith, leaf, inv.left)

pub returns-in_default-child_of-clause-lands : goal.returns-in_default-child_of-clause-lands
returns-in_default-child_of-clause-lands g c = λ steady levels table.
    let inv = c.loop-pager.invariant in
    let now = still_steady _ _ inv.image steady in
    let same = same_pages _ _ inv.image in
    let seen = pages_seen c.args.pager.now.state in
    let holds = subst (λ (x : Pages). Holds x c.in_ok-frame.frame) same (c.in_ok-frame.ensures.seen now).0 in
    let header = subst (λ (x : Pages). HasHeader x Table Interior c.loop-pager.number) same (rw c.in-Interior.is at (c.in_ok-frame.ensures.seen now).1) in
    let same_header : c.header-header.result ≡ c.args.pager.now.state.header = c.header-header.ensures.is ∙ c.read_frame.ensures.reads.image.header ∙ inv.image.header in
    let s = inv.seeks steady levels table in
    let page = row_page _ _ _ _ _ _ _ _ _ _ s c.in_ok-frame.frame c.in_ok-frame.ensures.number Interior header in
    let b = c.in-Some.ensures.found seen Interior holds (ap (λ (x : Header). x.usable) (sym same_header)) page in
    let down = row_down _ _ _ _ _ _ _ _ _ _ s c.in_ok-frame.frame c.in_ok-frame.ensures.number holds c.in-Some.at _ c.read_frame.ensures.asked c.in-Interior.is header b in
    let e = c.in_default-child_of.ensures.found seen holds (readable _ _ (subst (λ (x : Header). IsSoundHeader x) same_header c.header-header.ensures.sound))
    (ap (λ (x : Header). x.usable) (sym same_header)) (ap (λ (x : Header). x.pages) (sym same_header)) page b.within down.heading.number in cc

pub loop-pager-preserved : goal.loop-pager-preserved
loop-pager-preserved g c =
    let inv = c.loop-pager.invariant in
    record {
      image = SameImage-trans _ _ _ inv.image c.read_frame.ensures.reads.image;
      failures = c.in_ok-frame.ensures.reads.failures ∙ inv.failures;
      chained = c.read_frame.ensures.reads.unchained ∙ inv.chained;
      number = (c.in-Some-child_of.ensures.number.0, subst (λ (x : Header). c.in-Some-child_of.child ≤ x.pages) c.header-header.ensures.is c.in-Some-child_of.ensures.number.1);
      seeks = λ steady levels table.
          let now = still_steady _ _ inv.image steady in
          let same = same_pages _ _ inv.image in
          let seen = pages_seen c.args.pager.now.state in
          let holds = subst (λ (x : Pages). Holds x c.in_ok-frame.frame) same (c.in_ok-frame.ensures.seen now).0 in
          let header = subst (λ (x : Pages). HasHeader x Table Interior c.loop-pager.number) same (rw c.in-Interior.is at (c.in_ok-frame.ensures.seen now).1) in
          let same_header : c.header-header.result ≡ c.args.pager.now.state.header = c.header-header.ensures.is ∙ c.read_frame.ensures.reads.image.header ∙ inv.image.header in
          let s = inv.seeks steady levels table in
          let page = row_page _ _ _ _ _ _ _ _ _ _ s c.in_ok-frame.frame c.in_ok-frame.ensures.number Interior header in
          let b = c.in-Some.ensures.found seen Interior holds (ap (λ (x : Header). x.usable) (sym same_header)) page in
          let down = row_down _ _ _ _ _ _ _ _ _ _ s c.in_ok-frame.frame c.in_ok-frame.ensures.number holds c.in-Some.at _ c.read_frame.ensures.asked c.in-Interior.is header b in
          let found : Some c.in-Some-child_of.child ≡ Some (child_at seen c.in_ok-frame.frame.number c.in-Some.at) =
          c.in-Some-child_of.ensures.found seen holds (readable _ _ (subst (λ (x : Header). IsSoundHeader x) same_header c.header-header.ensures.sound))
          (ap (λ (x : Header). x.usable) (sym same_header)) (ap (λ (x : Header). x.pages) (sym same_header)) page b.within down.heading.number in
          let child : c.in-Some-child_of.child ≡ child_at seen c.in_ok-frame.frame.number c.in-Some.at = cc in
          rw (c.in_ok-push-in-Interior.ensures.items, child) down;
      way = λ steady.
          let now = still_steady _ _ inv.image steady in
          let same = same_pages _ _ inv.image in
          let seen = pages_seen c.args.pager.now.state in
          let holds = subst (λ (x : Pages). Holds x c.in_ok-frame.frame) same (c.in_ok-frame.ensures.seen now).0 in
          let header = subst (λ (x : Pages). HasHeader x Table Interior c.loop-pager.number) same (rw c.in-Interior.is at (c.in_ok-frame.ensures.seen now).1) in
          let same_header : c.header-header.result ≡ c.args.pager.now.state.header = c.header-header.ensures.is ∙ c.read_frame.ensures.reads.image.header ∙ inv.image.header in
          let named = c.in-Some-child_of.ensures.named seen holds (ap (λ (x : Header). x.usable) (sym same_header)) (ap (λ (x : Header). x.pages) (sym same_header)) in
          leads_down seen Table c.args.root c.loop-pager.frames.items c.push.new.self.items c.loop-pager.number (record c.in_ok-frame.frame { at = c.in-Some.at }) c.in-Some.at c.in-Some-child_of.child
          (inv.way steady) c.in_ok-frame.ensures.number (record { long = holds.long; page = holds.page; count = holds.count }) header named c.in_ok-push-in-Interior.ensures.items;
      asks =
          let pushed : length c.push.new.self.items ≡ length c.loop-pager.frames.items + 1 = ap length c.in_ok-push-in-Interior.ensures.items ∙ length_push c.loop-pager.frames.items _ in
          omega (arith, pushed, inv.asks, c.read_frame.ensures.asked);
      left =
          let short : length c.loop-pager.frames.items < 20 = omega (arith, c.loop-pager.frames.ok.0) in
          let down = left_down c.loop-pager.frames.items c.push.new.self.items (record c.in_ok-frame.frame { at = c.in-Some.at }) c.in_ok-push-in-Interior.ensures.items short c.in_ok-frame.ensures.small in
          omega (arith, down, inv.left);
    }

pub returns-clause-lands : goal.returns-clause-lands
returns-clause-lands g c = λ steady levels table.
    let short : length c.loop-pager.frames.items < 20 = row_short _ _ _ _ _ _ _ _ _ _ (c.loop-pager.invariant.seeks steady levels table) in
    absurd (omega (arith, c.loop-pager.frames.ok.0))

pub returns-in_err-frame-clause-way : goal.returns-in_err-frame-clause-way
returns-in_err-frame-clause-way g c = λ steady.
    let p = err_from_is_err_and c.from_residual.result c.from_residual.ensures.1 in
    let inv = c.loop-pager.invariant in
    let here = inv.way steady in
    let same = same_pages _ _ inv.image in
    rw (p.1, p.2)
    (elim c.in_err-frame.ensures.fault [
      | inl read ↦ inl read
      | inr page ↦ inr (subst (λ (x : Fault). BlamesMet (pages_seen c.args.pager.now.state) Table c.args.root x) (sym page)
          (blames_header _ _ _ _ _ here.met (λ level header.
          elim (c.in_err-frame.ensures.sound (still_steady _ _ inv.image steady) level (subst (λ (x : Pages). HasHeader x Table level c.loop-pager.number) (sym same) header)) [
            | inl failed ↦ cc
            | inr memory ↦ cc
          ])))
    ])

pub returns-in_default-clause-way : goal.returns-in_default-clause-way
returns-in_default-clause-way g c = λ steady.
    let inv = c.loop-pager.invariant in
    let now = still_steady _ _ inv.image steady in
    let same = same_pages _ _ inv.image in
    let seen = pages_seen c.args.pager.now.state in
    let here = inv.way steady in
    let holds = subst (λ (x : Pages). Holds x c.in_ok-frame.frame) same (c.in_ok-frame.ensures.seen now).0 in
    let same_header : c.header-header.result ≡ c.args.pager.now.state.header = c.header-header.ensures.is ∙ c.read_frame.ensures.reads.image.header ∙ inv.image.header in
    inr (blames_page seen Table _ _ _ here.met (λ level page.
    let e = c.in_default.ensures.sure seen level holds (readable _ _ (subst (λ (x : Header). IsSoundHeader x) same_header c.header-header.ensures.sound))
    (ap (λ (x : Header). x.usable) (sym same_header)) (ap image_size (sym same_header) ∙ sym c.image_size.ensures)
    (subst (λ (n : ℕ). IsPageOf seen Table level n) (sym c.in_ok-frame.ensures.number) page) in cc))

pub returns-in-Leaf-clause-way : goal.returns-in-Leaf-clause-way
returns-in-Leaf-clause-way g c = λ steady.
    let inv = c.loop-pager.invariant in
    let same = same_pages _ _ inv.image in
    let seen = c.in_ok-frame.ensures.seen (still_steady _ _ inv.image steady) in
    let holds = subst (λ (x : Pages). Holds x c.in_ok-frame.frame) same seen.0 in
    let header = subst (λ (x : Pages). HasHeader x Table Leaf c.loop-pager.number) same (rw c.in-Leaf.is at seen.1) in
    let here = inv.way steady in
    reached_leaf _ _ _ _ _ c.in-Leaf.is here.way
    (stands_at _ _ _ _ _ (stands_met _ _ _ _ _ Leaf _ c.in_ok-frame.ensures.number here.met holds header tt))

pub returns-in_default-child_of-clause-way : goal.returns-in_default-child_of-clause-way
returns-in_default-child_of-clause-way g c = λ steady.
    let inv = c.loop-pager.invariant in
    let now = still_steady _ _ inv.image steady in
    let same = same_pages _ _ inv.image in
    let seen = pages_seen c.args.pager.now.state in
    let here = inv.way steady in
    let n = c.in_ok-frame.frame.number in
    let number : n ≡ c.loop-pager.number = c.in_ok-frame.ensures.number in
    let holds = subst (λ (x : Pages). Holds x c.in_ok-frame.frame) same (c.in_ok-frame.ensures.seen now).0 in
    let header = subst (λ (x : Pages). HasHeader x Table Interior c.loop-pager.number) same (rw c.in-Interior.is at (c.in_ok-frame.ensures.seen now).1) in
    let same_header : c.header-header.result ≡ c.args.pager.now.state.header = c.header-header.ensures.is ∙ c.read_frame.ensures.reads.image.header ∙ inv.image.header in
    let within = c.in-Some.ensures.within seen holds (ap (λ (x : Header). x.usable) (sym same_header)) in
    inr (subst (λ (k : ℕ). BlamesMet seen Table c.args.root (BadPage k)) number (blames_child seen Table c.args.root _ n c.in-Some.at (subst (λ (k : ℕ). IsMetAt seen Table c.args.root (length c.loop-pager.frames.items + 1) k) (sym number) here.met)
    (subst (λ (k : ℕ). HasHeader seen Table Interior k) (sym number) header) within (λ page child.
    let e = c.in_default-child_of.ensures.found seen holds (readable _ _ (subst (λ (x : Header). IsSoundHeader x) same_header c.header-header.ensures.sound))
    (ap (λ (x : Header). x.usable) (sym same_header)) (ap (λ (x : Header). x.pages) (sym same_header)) page within child in cc)))

pub returns-clause-way : goal.returns-clause-way
returns-clause-way g c = λ steady.
    inr (blames_depth _ _ _ _ _ (c.loop-pager.invariant.way steady) (omega (arith, c.loop-pager.frames.ok.0)))

pub returns-in-Leaf-clause-there : goal.returns-in-Leaf-clause-there
returns-in-Leaf-clause-there g c = λ steady levels table exact row.
    let inv = c.loop-pager.invariant in
    let now = still_steady _ _ inv.image steady in
    let same = same_pages _ _ inv.image in
    let seen = pages_seen c.args.pager.now.state in
    let holds = subst (λ (x : Pages). Holds x c.in_ok-frame.frame) same (c.in_ok-frame.ensures.seen now).0 in
    let header = subst (λ (x : Pages). HasHeader x Table Leaf c.loop-pager.number) same (rw c.in-Leaf.is at (c.in_ok-frame.ensures.seen now).1) in
    let same_header : c.header-header.result ≡ c.args.pager.now.state.header = c.header-header.ensures.is ∙ c.read_frame.ensures.reads.image.header ∙ inv.image.header in
    let s = inv.seeks steady levels table in
    let page = row_page _ _ _ _ _ _ _ _ _ _ s c.in_ok-frame.frame c.in_ok-frame.ensures.number Leaf header in
    let fits : SFits w64 c.args.key = search rules in
    let boundary = c.in-Some.ensures.found seen Leaf holds (ap (λ (x : Header). x.usable) (sym same_header)) page in
    let has = subst (λ (k : ℤ). HasRowWith seen levels c.args.root k) (sym (to_z-of_z w64 c.args.key fits)) row in
    let next = row_next seen c.args.root c.args.behind _ levels table.order exact table.tree.shape has.place has.is_there has.has in
    let within : c.in-Some.at < count_at seen c.in_ok-frame.frame.number =
    row_there _ _ _ _ _ _ _ _ _ _ s c.in_ok-frame.frame c.in_ok-frame.ensures.number holds c.in-Some.at _ c.read_frame.ensures.asked header boundary has.place next has.is_there in
    let count : c.in_ok-frame.frame.count ≡ count_at seen c.in_ok-frame.frame.number = holds.count in
    omega (arith, within, count)
