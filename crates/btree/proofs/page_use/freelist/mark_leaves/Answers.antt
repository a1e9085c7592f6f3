use Rattle.std.proofs.Common.{rules, arith, ◌≡◌, ◌<◌, ℕ, length, suc, inr, below_more, subst, IsTrue, IsFalse}
use Rattle.btree.specs.page_use.Marks.{AreMarks, IsGoneWith}
use Rattle.btree.specs.page_use.FreeWalk.{IsWithin, leaf_in}
use Rattle.btree.proofs.lemmas.page_use.WalkLemmas.{leaf_step, leaf_twice}
use Rattle.btree.proofs.page_use.freelist.mark_leaves.Goals as goal

pub loop-i-preserved : goal.loop-i-preserved
loop-i-preserved c =
    let leaf : ℕ = c.number_at-leaf.result in
    let is : leaf ≡ leaf_in c.args.bytes.now c.loop-i.i = search rules in
    let within : IsWithin c.args.pages leaf = (omega arith, omega arith) in
    let yes : IsTrue c.mark.result = search rules in
    let less : c.loop-i.i < c.args.count = search rules in
    let inside : leaf < length c.loop-i.used = omega arith in
    record {
      sound = below_more (λ j. IsWithin c.args.pages (leaf_in c.args.bytes.now j)) c.loop-i.i c.loop-i.invariant.sound (subst (λ (x : ℕ). IsWithin c.args.pages x) is within);
      marks = λ image users done k all opened.
          leaf_step image users done k c.args.pages c.args.count c.loop-i.i c.args.bytes.now c.args.used.now c.loop-i.used leaf all opened less is within
          (c.loop-i.invariant.marks image users done k all opened) c.mark.new.used (c.mark.ensures.new yes) inside (c.mark.ensures.marked yes);
    }

pub returns-then-not-mark-clause-fault : goal.returns-then-not-mark-clause-fault
returns-then-not-mark-clause-fault c =
    let leaf : ℕ = c.number_at-leaf.result in
    let is : leaf ≡ leaf_in c.args.bytes.now c.loop-i.i = search rules in
    let within : IsWithin c.args.pages leaf = (omega arith, omega arith) in
    let no : IsFalse c.mark.result = search rules in
    let less : c.loop-i.i < c.args.count = search rules in
    inr (λ image users done k all opened.
    leaf_twice image users done k c.args.pages c.args.count c.loop-i.i c.args.bytes.now c.args.used.now c.loop-i.used leaf all opened less is within
    (c.loop-i.invariant.marks image users done k all opened) (c.mark.ensures.twice no))

pub returns-clause-marks : goal.returns-clause-marks
returns-clause-marks c =
    let end : c.loop-i.i ≡ c.args.count = search rules in
    λ image users done k all opened.
    subst (λ (x : ℕ). AreMarks image users (IsGoneWith done k (suc k) x) c.loop-i.used) end (c.loop-i.invariant.marks image users done k all opened)
