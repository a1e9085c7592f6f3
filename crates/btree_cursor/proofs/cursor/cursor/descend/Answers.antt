use Rattle.std.proofs.Common.{◌≡◌, ◌≢◌, ◌+◌, ◌<◌, ◌≤◌, inl, inr, ℕ, [], length, vec_len, arith, sym, ◌∙◌, ap, subst, Some}
use Rattle.std.proofs.lemmas.Bool.Decides.{nat_tests}
use Rattle.std.proofs.lemmas.List.{nil_from_length, length_push}
use Rattle.std.proofs.lemmas.Result.{err_from_is_err_and}
use Rattle.values.specs.declared.fault.Fault.{Fault}
use Rattle.pager.specs.declared.header.Header.{Header}
use Rattle.pager.specs.PagerState.{IsSoundHeader}
use Rattle.pager.proofs.CallLemmas.{SameImage-trans}
use Rattle.btree.specs.image.Pages.{pages_seen, IsNumber, Pages}
use Rattle.btree.specs.declared.image.kind.Level.TheVariants.{Interior, Leaf}
use Rattle.btree.specs.image.Broken.{BlamesMet}
use Rattle.btree.specs.image.Tree.{HasHeader, IsNamedChild, IsPageOf, child_at, count_at}
use Rattle.btree_cursor.specs.cursor.Rest.{Holds}
use Rattle.btree.proofs.lemmas.image.PlaceLemmas.{leaf_entries}
use Rattle.btree_cursor.proofs.lemmas.cursor.StandLemmas.{stands_met}
use Rattle.btree_cursor.proofs.lemmas.cursor.WayLemmas.{blames_child, blames_depth, blames_empty, blames_header, leads_down, reached_leaf}
use Rattle.btree_cursor.proofs.lemmas.cursor.HeldLemmas.{down_more}
use Rattle.btree_cursor.proofs.lemmas.cursor.LeftLemmas.{left_down, left_leaf}
use Rattle.btree_cursor.proofs.lemmas.cursor.RestLemmas.{heading_short}
use Rattle.btree.proofs.SeenLemmas.{still_steady, same_pages, readable}
use Rattle.btree_cursor.proofs.lemmas.cursor.SeenLemmas.{heading_header, leaf_filled, leaf_stands, interior_page, first_child, goes_down}
use Rattle.btree_cursor.proofs.cursor.cursor.descend.Goals as goal
use Rattle.btree_cursor.proofs.cursor.cursor.descend.Goals.{else-frame-eq0-via-then-frame-eq0+else-not-is_empty, else-frame-eq0-via-else-frame-eq0}

pub returns-in_err-frame-clause-stands : goal.returns-in_err-frame-clause-stands
returns-in_err-frame-clause-stands g c = λ steady total places budget h.
    let p = err_from_is_err_and c.from_residual.result c.from_residual.ensures.1 in
    let inv = c.loop-kind.invariant in
    let header = heading_header _ _ _ _ _ _ _ _ (inv.heads steady total places budget h) in
    let same = same_pages _ _ inv.image in
    rw (p.1, p.2)
    (c.in_err-frame.ensures.sound (still_steady _ _ inv.image steady) header.0 (subst (λ (x : Pages). HasHeader x c.args.kind header.0 c.loop-kind.number) (sym same) header.1))

pub returns-in_err-frame-clause-way : goal.returns-in_err-frame-clause-way
returns-in_err-frame-clause-way g c = λ steady leads.
    let p = err_from_is_err_and c.from_residual.result c.from_residual.ensures.1 in
    let inv = c.loop-kind.invariant in
    let here = inv.way steady leads in
    let same = same_pages _ _ inv.image in
    rw (p.1, p.2)
    (elim c.in_err-frame.ensures.fault [
      | inl read ↦ inl read
      | inr page ↦ inr (subst (λ (x : Fault). BlamesMet (pages_seen c.args.pager.now.state) c.args.kind c.args.root x) (sym page)
          (blames_header _ _ _ _ _ here.met (λ level header.
          elim (c.in_err-frame.ensures.sound (still_steady _ _ inv.image steady) level (subst (λ (x : Pages). HasHeader x c.args.kind level c.loop-kind.number) (sym same) header)) [
            | inl failed ↦ cc
            | inr memory ↦ cc
          ])))
    ])

pub returns-then-not-is_empty-clause-way : goal.returns-then-not-is_empty-clause-way
returns-then-not-is_empty-clause-way g c = λ steady leads.
    let inv = c.loop-kind.invariant in
    let now = still_steady _ _ inv.image steady in
    let pages = pages_seen c.args.pager.now.state in
    let some : c.loop-kind.frames.items ≢ [] = λ none.
    let l : length c.loop-kind.frames.items ≡ 0 = ap length none in
    let e : vec_len c.loop-kind.frames ≡ 0 = omega (arith, c.loop-kind.frames.ok.0) in
    grind (arith, nat_tests, c.is_empty.ensures, c.if-not-is_empty.true) in
    let seen = c.in_ok-frame.ensures.seen now in
    let leaf : HasHeader (pages_seen c.loop-kind.pager.state) c.args.kind Leaf c.loop-kind.number = rw c.in-Leaf.is at seen.1 in
    let header : HasHeader pages c.args.kind Leaf c.loop-kind.number = subst (λ (x : Pages). HasHeader x c.args.kind Leaf c.loop-kind.number) (same_pages _ _ inv.image) leaf in
    let count : c.in_ok-frame.frame.count ≡ count_at pages c.loop-kind.number =
    subst (λ (x : Pages). c.in_ok-frame.frame.count ≡ count_at x c.loop-kind.number) (same_pages _ _ inv.image)
    (subst (λ (n : ℕ). c.in_ok-frame.frame.count ≡ count_at (pages_seen c.loop-kind.pager.state) n) c.in_ok-frame.ensures.number seen.0.count) in
    inr (blames_empty _ _ _ _ _ (inv.way steady leads) some header (sym count ∙ c.if-frame-eq0.true))

pub returns-in-Leaf-clause-way : goal.returns-in-Leaf-clause-way
returns-in-Leaf-clause-way g c = λ steady leads.
    let inv = c.loop-kind.invariant in
    let same = same_pages _ _ inv.image in
    let seen = c.in_ok-frame.ensures.seen (still_steady _ _ inv.image steady) in
    let holds = subst (λ (x : Pages). Holds x c.in_ok-frame.frame) same seen.0 in
    let header = subst (λ (x : Pages). HasHeader x c.args.kind Leaf c.loop-kind.number) same (rw c.in-Leaf.is at seen.1) in
    let here = inv.way steady leads in
    reached_leaf _ _ _ _ _ c.in-Leaf.is here.way (stands_met _ _ _ _ _ Leaf _ c.in_ok-frame.ensures.number here.met holds header (leaf_entries c.args.kind))

pub returns-in_default-clause-way : goal.returns-in_default-clause-way
returns-in_default-clause-way g c = λ steady leads.
    let inv = c.loop-kind.invariant in
    let now = still_steady _ _ inv.image steady in
    let pages = pages_seen c.args.pager.now.state in
    let same = same_pages _ _ inv.image in
    let seen = c.in_ok-frame.ensures.seen now in
    let interior : HasHeader (pages_seen c.loop-kind.pager.state) c.args.kind Interior c.loop-kind.number = rw c.in-Interior.is at seen.1 in
    let here = inv.way steady leads in
    let same_header : c.header-header.result ≡ c.loop-kind.pager.state.header = c.header-header.ensures.is ∙ c.read_frame.ensures.reads.image.header in
    let at_number : (P : ℕ → Type 0) → P c.loop-kind.number → P c.in_ok-frame.frame.number = λ P h. subst P (sym c.in_ok-frame.ensures.number) h in
    let header : HasHeader pages c.args.kind Interior c.loop-kind.number = subst (λ (x : Pages). HasHeader x c.args.kind Interior c.loop-kind.number) same interior in
    inr (blames_child pages _ _ _ _ 0 here.met header (omega arith) (λ page number.
    let e = c.in_default.ensures.found (pages_seen c.loop-kind.pager.state) seen.0 (readable _ _ (subst (λ (x : Header). IsSoundHeader x) same_header c.header-header.ensures.sound)) (ap (λ (x : Header). x.usable) (sym same_header)) (ap (λ (x : Header). x.pages) (sym same_header))
    (subst (λ (x : Pages). IsPageOf x c.args.kind Interior c.in_ok-frame.frame.number) (sym same) (at_number (λ n. IsPageOf pages c.args.kind Interior n) page)) (omega arith)
    (subst (λ (x : Pages). IsNumber x (child_at x c.in_ok-frame.frame.number 0)) (sym same) (at_number (λ n. IsNumber pages (child_at pages n 0)) number)) in cc))

pub returns-then-not-is_empty-clause-stands : goal.returns-then-not-is_empty-clause-stands
returns-then-not-is_empty-clause-stands g c = λ steady total places budget h.
    let inv = c.loop-kind.invariant in
    let now = still_steady _ _ inv.image steady in
    let some : c.loop-kind.frames.items ≢ [] = λ none.
    let l : length c.loop-kind.frames.items ≡ 0 = ap length none in
    let e : vec_len c.loop-kind.frames ≡ 0 = omega (arith, c.loop-kind.frames.ok.0) in
    grind (arith, nat_tests, c.is_empty.ensures, c.if-not-is_empty.true) in
    absurd (leaf_filled _ _ (same_pages _ _ inv.image) _ _ _ _ c.in_ok-frame.frame c.in_ok-frame.ensures.number _ _ _ _ (inv.heads steady total places budget h)
    (c.in_ok-frame.ensures.seen now).0 c.read_frame.ensures.asked (rw c.in-Leaf.is at (c.in_ok-frame.ensures.seen now).1) some c.if-frame-eq0.true)

pub returns-in-Leaf-clause-stands : goal.returns-in-Leaf-clause-stands
returns-in-Leaf-clause-stands g c = λ steady total places budget h.
    let inv = c.loop-kind.invariant in
    let now = still_steady _ _ inv.image steady in
    leaf_stands _ _ (same_pages _ _ inv.image) _ _ _ _ c.in_ok-frame.frame c.in_ok-frame.ensures.number _ _ _ _ (inv.heads steady total places budget h)
    (c.in_ok-frame.ensures.seen now).0 c.read_frame.ensures.asked (rw c.in-Leaf.is at (c.in_ok-frame.ensures.seen now).1) c.in-Leaf.is c.in_ok-frame.ensures.at

pub returns-in-Leaf-clause-left : goal.returns-in-Leaf-clause-left
returns-in-Leaf-clause-left g c =
    let inv = c.loop-kind.invariant in
    let short : length c.loop-kind.frames.items < 20 = omega (arith, c.loop-kind.frames.ok.0) in
    let leaf = left_leaf c.loop-kind.frames.items c.in_ok-frame.frame short c.in_ok-frame.ensures.small in
    omega (arith, leaf, inv.left)

pub returns-in_default-clause-stands : goal.returns-in_default-clause-stands
returns-in_default-clause-stands g c = λ steady total places budget h.
    let inv = c.loop-kind.invariant in
    let now = still_steady _ _ inv.image steady in
    let seen = pages_seen c.loop-kind.pager.state in
    let header = rw c.in-Interior.is at (c.in_ok-frame.ensures.seen now).1 in
    let holds = (c.in_ok-frame.ensures.seen now).0 in
    let same_header : c.header-header.result ≡ c.loop-kind.pager.state.header = c.header-header.ensures.is ∙ c.read_frame.ensures.reads.image.header in
    let page = interior_page _ _ (same_pages _ _ inv.image) _ _ _ _ c.in_ok-frame.frame c.in_ok-frame.ensures.number _ _ _ _ (inv.heads steady total places budget h) holds c.read_frame.ensures.asked header in
    let number = first_child _ _ (same_pages _ _ inv.image) _ _ _ _ c.in_ok-frame.frame c.in_ok-frame.ensures.number _ _ _ _ (inv.heads steady total places budget h) holds c.read_frame.ensures.asked header c.in-Interior.is c.in_ok-frame.ensures.at in
    let e = c.in_default.ensures.found seen holds (readable _ _ (subst (λ (x : Header). IsSoundHeader x) same_header c.header-header.ensures.sound)) (ap (λ (x : Header). x.usable) (sym same_header)) (ap (λ (x : Header). x.pages) (sym same_header)) page (omega arith) number in cc

pub loop-kind-preserved : goal.loop-kind-preserved
loop-kind-preserved g c =
    let inv = c.loop-kind.invariant in
    record {
      image = SameImage-trans _ _ _ inv.image c.read_frame.ensures.reads.image;
      failures = c.in_ok-frame.ensures.reads.failures ∙ inv.failures;
      chained = c.read_frame.ensures.reads.unchained ∙ inv.chained;
      number = (c.in-Some.ensures.number.0, subst (λ (x : Header). c.in-Some.child ≤ x.pages) c.header-header.ensures.is c.in-Some.ensures.number.1);
      heads = λ steady total places budget h.
          let now = still_steady _ _ inv.image steady in
          let seen = pages_seen c.loop-kind.pager.state in
          let header = rw c.in-Interior.is at (c.in_ok-frame.ensures.seen now).1 in
          let holds = (c.in_ok-frame.ensures.seen now).0 in
          let same_header : c.header-header.result ≡ c.loop-kind.pager.state.header = c.header-header.ensures.is ∙ c.read_frame.ensures.reads.image.header in
          let page = interior_page _ _ (same_pages _ _ inv.image) _ _ _ _ c.in_ok-frame.frame c.in_ok-frame.ensures.number _ _ _ _ (inv.heads steady total places budget h) holds c.read_frame.ensures.asked header in
          let number = first_child _ _ (same_pages _ _ inv.image) _ _ _ _ c.in_ok-frame.frame c.in_ok-frame.ensures.number _ _ _ _ (inv.heads steady total places budget h) holds c.read_frame.ensures.asked header c.in-Interior.is c.in_ok-frame.ensures.at in
          let found : Some c.in-Some.child ≡ Some (child_at seen c.in_ok-frame.frame.number 0) =
          c.in-Some.ensures.found seen holds (readable _ _ (subst (λ (x : Header). IsSoundHeader x) same_header c.header-header.ensures.sound)) (ap (λ (x : Header). x.usable) (sym same_header)) (ap (λ (x : Header). x.pages) (sym same_header)) page (omega arith) number in
          let child : c.in-Some.child ≡ child_at seen c.in_ok-frame.frame.number 0 = cc in
          goes_down _ _ (same_pages _ _ inv.image) _ _ _ _ c.in_ok-frame.frame c.in_ok-frame.ensures.number _ _ _ _ (inv.heads steady total places budget h) holds c.read_frame.ensures.asked header
          c.in-Some.child child c.push.new.self.items c.in_ok-push-in-Interior.ensures.items c.in-Interior.is c.in_ok-frame.ensures.at;
      way = λ steady leads.
          let now = still_steady _ _ inv.image steady in
          let pages = pages_seen c.args.pager.now.state in
          let same = same_pages _ _ inv.image in
          let seen = c.in_ok-frame.ensures.seen now in
          let interior : HasHeader (pages_seen c.loop-kind.pager.state) c.args.kind Interior c.loop-kind.number = rw c.in-Interior.is at seen.1 in
          let same_header : c.header-header.result ≡ c.loop-kind.pager.state.header = c.header-header.ensures.is ∙ c.read_frame.ensures.reads.image.header in
          let named : IsNamedChild (pages_seen c.loop-kind.pager.state) c.args.kind c.in_ok-frame.frame.number 0 c.in-Some.child =
          c.in-Some.ensures.named (pages_seen c.loop-kind.pager.state) seen.0 (ap (λ (x : Header). x.usable) (sym same_header)) (ap (λ (x : Header). x.pages) (sym same_header)) in
          leads_down pages c.args.kind c.args.root c.loop-kind.frames.items c.push.new.self.items c.loop-kind.number c.in_ok-frame.frame 0 c.in-Some.child (inv.way steady leads) c.in_ok-frame.ensures.number
          (subst (λ (x : Pages). Holds x c.in_ok-frame.frame) same seen.0)
          (subst (λ (x : Pages). HasHeader x c.args.kind Interior c.loop-kind.number) same interior)
          (subst (λ (x : Pages). IsNamedChild x c.args.kind c.in_ok-frame.frame.number 0 c.in-Some.child) same named)
          c.in_ok-push-in-Interior.ensures.items;
      down = down_more c.args.frames.now.items c.loop-kind.frames.items c.push.new.self.items c.in_ok-frame.frame inv.down c.in_ok-push-in-Interior.ensures.items c.in_ok-frame.ensures.at;
      asks =
          let pushed : length c.push.new.self.items ≡ length c.loop-kind.frames.items + 1 = ap length c.in_ok-push-in-Interior.ensures.items ∙ length_push c.loop-kind.frames.items c.in_ok-frame.frame in
          omega (arith, pushed, inv.asks, c.read_frame.ensures.asked);
      left =
          let short : length c.loop-kind.frames.items < 20 = omega (arith, c.loop-kind.frames.ok.0) in
          let down = left_down c.loop-kind.frames.items c.push.new.self.items c.in_ok-frame.frame c.in_ok-push-in-Interior.ensures.items short c.in_ok-frame.ensures.small in
          omega (arith, down, inv.left);
    }

pub returns-clause-stands : goal.returns-clause-stands
returns-clause-stands g c = λ steady total places budget h.
    let short : length c.loop-kind.frames.items < 20 = heading_short _ _ _ _ _ _ _ _ (c.loop-kind.invariant.heads steady total places budget h) in
    absurd (omega (arith, c.loop-kind.frames.ok.0))

pub returns-clause-way : goal.returns-clause-way
returns-clause-way g c = λ steady leads.
    inr (blames_depth _ _ _ _ _ (c.loop-kind.invariant.way steady leads) (omega (arith, c.loop-kind.frames.ok.0)))

pub returns-in-Leaf-clause-down : goal.returns-in-Leaf-clause-down
returns-in-Leaf-clause-down g c =
    let down = c.loop-kind.invariant.down in
    record {
      below = down.0;
      new_is = down.1.0;
      firsts = down.1.1;
      first = c.in_ok-frame.ensures.at;
      filled = λ none. elim c.else-frame-eq0.branch [
        | else-frame-eq0-via-then-frame-eq0+else-not-is_empty w ↦
            (let e : vec_len c.loop-kind.frames ≡ 0 = grind (arith, nat_tests, w.is_empty.ensures, w.if-not-is_empty.false) in
            nil_from_length c.loop-kind.frames.items (omega (arith, c.loop-kind.frames.ok.0)))
        | else-frame-eq0-via-else-frame-eq0 w ↦ absurd (grind (arith, nat_tests, none, w.if-frame-eq0.false))
      ];
    }

pub returns-in_err-frame-clause-asks : goal.returns-in_err-frame-clause-asks
returns-in_err-frame-clause-asks g c = omega (arith, c.loop-kind.invariant.asks, c.read_frame.ensures.asked)

pub returns-then-not-is_empty-clause-asks : goal.returns-then-not-is_empty-clause-asks
returns-then-not-is_empty-clause-asks g c = omega (arith, c.loop-kind.invariant.asks, c.read_frame.ensures.asked)

pub returns-in-Leaf-clause-asks : goal.returns-in-Leaf-clause-asks
returns-in-Leaf-clause-asks g c = omega (arith, c.loop-kind.invariant.asks, c.read_frame.ensures.asked)

pub returns-in_default-clause-asks : goal.returns-in_default-clause-asks
returns-in_default-clause-asks g c = omega (arith, c.loop-kind.invariant.asks, c.read_frame.ensures.asked)

pub returns-clause-asks : goal.returns-clause-asks
returns-clause-asks g c = omega (arith, c.loop-kind.invariant.asks)
