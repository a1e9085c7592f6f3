use Rattle.std.proofs.Common.{◌≡◌, ◌<◌, ◌≤◌, ℕ, Some, ap, arith, refl, rules, subst, sym, ◌∙◌}
use Rattle.std.proofs.lemmas.Result.{err_from_is_err_and}
use Rattle.pager.specs.declared.header.Header.{Header}
use Rattle.pager.specs.PagerState.{IsSoundHeader}
use Rattle.pager.proofs.CallLemmas.{SameImage-none, SameImage-trans}
use Rattle.btree.specs.declared.image.kind.Level.TheVariants.{Leaf, Interior}
use Rattle.btree.specs.image.Pages.{IsNumber, Pages, pages_seen}
use Rattle.btree.specs.image.Shape.{HasShape}
use Rattle.btree.specs.image.Tree.{HasHeader, IsPageOf, child_at}
use Rattle.btree.proofs.SeenLemmas.{readable, same_pages, still_steady}
use Rattle.btree_cursor.specs.cursor.Rest.{Holds}
use Rattle.btree_cursor.proofs.lemmas.cursor.DepthLemmas.{first_below, leaf_height, shape_level}
use Rattle.btree_cursor.proofs.cursor.cursor.depth.Goals as goal

pub loop-above-init : goal.loop-above-init
loop-above-init g c = record {
  image = SameImage-none _;
  failures = refl;
  chained = refl;
  number = search rules;
  asks = omega arith;
  shape = λ steady levels tree. (levels, omega arith, tree.shape);
}

pub returns-in_err-frame-clause-outcome : goal.returns-in_err-frame-clause-outcome
returns-in_err-frame-clause-outcome g c =
    let p = err_from_is_err_and c.from_residual.result c.from_residual.ensures.1 in
    rw (p.1, p.2) (record {
      only = search rules;
      outside = λ outside. absurd (outside (search rules));
      sound = λ steady levels tree.
          let inv = c.loop-above.invariant in
          let s = inv.shape steady levels tree in
          let here = shape_level (pages_seen c.args.pager.now.state) c.args.kind s.0 c.loop-above.number s.2 in
          c.in_err-frame.ensures.sound (still_steady _ _ inv.image steady) here.0
          (subst (λ (x : Pages). HasHeader x c.args.kind here.0 c.loop-above.number) (sym (same_pages _ _ inv.image)) here.1.header);
    })

pub returns-in-Leaf-clause-outcome : goal.returns-in-Leaf-clause-outcome
returns-in-Leaf-clause-outcome g c = record {
  number = search rules;
  levels = λ steady levels tree.
      let inv = c.loop-above.invariant in
      let s = inv.shape steady levels tree in
      let told = c.in_ok-frame.ensures.seen (still_steady _ _ inv.image steady) in
      let header = subst (λ (x : Pages). HasHeader x c.args.kind Leaf c.loop-above.number) (same_pages _ _ inv.image) (rw c.in-Leaf.is at told.1) in
      let none = leaf_height (pages_seen c.args.pager.now.state) c.args.kind s.0 c.loop-above.number s.2 header in
      omega (arith, none, s.1);
  most = search rules;
  asks = omega (arith, c.loop-above.invariant.asks, c.read_frame.ensures.asked);
}

pub returns-in_default-clause-outcome : goal.returns-in_default-clause-outcome
returns-in_default-clause-outcome g c = record {
  only = tt;
  outside = λ outside. absurd (outside (search rules));
  sound = λ steady levels tree.
      let inv = c.loop-above.invariant in
      let seen = pages_seen c.args.pager.now.state in
      let same = same_pages _ _ inv.image in
      let s = inv.shape steady levels tree in
      let told = c.in_ok-frame.ensures.seen (still_steady _ _ inv.image steady) in
      let holds = subst (λ (x : Pages). Holds x c.in_ok-frame.frame) same told.0 in
      let header = subst (λ (x : Pages). HasHeader x c.args.kind Interior c.loop-above.number) same (rw c.in-Interior.is at told.1) in
      let first = first_below seen c.args.kind s.0 c.loop-above.number s.2 header in
      let number : c.in_ok-frame.frame.number ≡ c.loop-above.number = c.in_ok-frame.ensures.number in
      let e = c.in_default.ensures.found seen holds (readable _ _ (subst (λ (x : Header). IsSoundHeader x) c.header-usable.ensures.is c.header-usable.ensures.sound))
      (ap (λ (x : Header). x.usable) (sym c.header-usable.ensures.is)) (ap (λ (x : Header). x.pages) (sym c.header-pages.ensures.is))
      (subst (λ (n : ℕ). IsPageOf seen c.args.kind Interior n) (sym number) first.page) (omega arith)
      (subst (λ (n : ℕ). IsNumber seen (child_at seen n 0)) (sym number) first.number) in cc;
}

pub loop-above-preserved : goal.loop-above-preserved
loop-above-preserved g c =
    let inv = c.loop-above.invariant in
    record {
      image = SameImage-trans _ _ _ inv.image c.read_frame.ensures.reads.image;
      failures = c.in_ok-frame.ensures.reads.failures ∙ inv.failures;
      chained = c.read_frame.ensures.reads.unchained ∙ inv.chained;
      number = (
        c.in-Some.ensures.number.0,
        subst (λ (x : Header). c.in-Some.child ≤ x.pages) (c.header-pages.ensures.is ∙ sym (SameImage-trans _ _ _ inv.image c.read_frame.ensures.reads.image).header) c.in-Some.ensures.number.1,
      );
      asks = omega (arith, inv.asks, c.read_frame.ensures.asked);
      shape = λ steady levels tree.
          let seen = pages_seen c.args.pager.now.state in
          let same = same_pages _ _ inv.image in
          let s = inv.shape steady levels tree in
          let told = c.in_ok-frame.ensures.seen (still_steady _ _ inv.image steady) in
          let holds = subst (λ (x : Pages). Holds x c.in_ok-frame.frame) same told.0 in
          let header = subst (λ (x : Pages). HasHeader x c.args.kind Interior c.loop-above.number) same (rw c.in-Interior.is at told.1) in
          let first = first_below seen c.args.kind s.0 c.loop-above.number s.2 header in
          let number : c.in_ok-frame.frame.number ≡ c.loop-above.number = c.in_ok-frame.ensures.number in
          let found : Some c.in-Some.child ≡ Some (child_at seen c.in_ok-frame.frame.number 0) =
          c.in-Some.ensures.found seen holds (readable _ _ (subst (λ (x : Header). IsSoundHeader x) c.header-usable.ensures.is c.header-usable.ensures.sound))
          (ap (λ (x : Header). x.usable) (sym c.header-usable.ensures.is)) (ap (λ (x : Header). x.pages) (sym c.header-pages.ensures.is))
          (subst (λ (n : ℕ). IsPageOf seen c.args.kind Interior n) (sym number) first.page) (omega arith)
          (subst (λ (n : ℕ). IsNumber seen (child_at seen n 0)) (sym number) first.number) in
          let child : c.in-Some.child ≡ child_at seen c.in_ok-frame.frame.number 0 = cc in
          let same_child : child_at seen c.loop-above.number 0 ≡ c.in-Some.child = ap (λ (n : ℕ). child_at seen n 0) (sym number) ∙ sym child in
          (first.below, omega (arith, s.1, first.height_is), subst (λ (n : ℕ). HasShape seen c.args.kind first.below n) same_child first.shape);
    }

pub returns-clause-outcome : goal.returns-clause-outcome
returns-clause-outcome g c = record {
  only = refl;
  outside = λ outside. absurd (outside (search rules));
  sound = λ steady levels tree.
      let s = c.loop-above.invariant.shape steady levels tree in
      let few : levels < 20 = tree.few in
      let end : 20 ≤ c.loop-above.above = search rules in
      absurd (omega (arith, s.1, few, end));
}
