use Rattle.std.proofs.Common.{◌≡◌, ℕ, arith, refl, rules, subst}
use Rattle.integrity_trees.specs.wanted_entries.Unique.{Agree}
use Rattle.integrity_trees.proofs.lemmas.entry_prefixes.FieldLemmas.{agree_next, differ_next}
use Rattle.integrity_trees.proofs.entry_prefixes.agreement.shared_columns.Goals as goal

pub returns-in_default-clause-agree : goal.returns-in_default-clause-agree
returns-in_default-clause-agree c = λ x y one long other too. refl

pub returns-in_default-new-clause-agree : goal.returns-in_default-new-clause-agree
returns-in_default-new-clause-agree c = λ x y one long other too. refl

pub returns-in_default-clause-differ : goal.returns-in_default-clause-differ
returns-in_default-clause-differ c = λ x y one long other too less. absurd (c.in_default.ensures.none x one)

pub returns-in_default-new-clause-differ : goal.returns-in_default-new-clause-differ
returns-in_default-new-clause-differ c = λ x y one long other too less. absurd (c.in_default-new.ensures.none y other)

pub loop-i-init : goal.loop-i-init
loop-i-init c = λ x y one long other too. record {
  agree = refl;
  one_is = (c.in-Some.ensures.found x).1 one;
  other_is = (c.in-Some-new.ensures.found y).1 other;
}

pub returns-then-not-do_next_agree-clause-agree : goal.returns-then-not-do_next_agree-clause-agree
returns-then-not-do_next_agree-clause-agree c = λ x y one long other too. (c.loop-i.invariant x y one long other too).agree

pub returns-then-not-do_next_agree-clause-differ : goal.returns-then-not-do_next_agree-clause-differ
returns-then-not-do_next_agree-clause-differ c = λ x y one long other too less.
    differ_next x y c.loop-i.i c.loop-i.first c.loop-i.second (c.loop-i.invariant x y one long other too) (omega (arith, long, c.loop-i-test.true)) (omega (arith, too, c.loop-i-test.true))
    (c.do_next_agree.ensures.differ c.if-not-do_next_agree.true)

pub loop-i-preserved : goal.loop-i-preserved
loop-i-preserved c = λ x y one long other too.
    agree_next x y c.loop-i.i c.loop-i.first c.loop-i.second (c.loop-i.invariant x y one long other too) (omega (arith, long, c.loop-i-test.true)) (omega (arith, too, c.loop-i-test.true))
    c.do_next_agree.new.one c.do_next_agree.new.other (c.do_next_agree.ensures.agree c.if-not-do_next_agree.false)

pub returns-clause-agree : goal.returns-clause-agree
returns-clause-agree c = λ x y one long other too.
    let all : c.loop-i.i ≡ c.args.width = search rules in
    subst (λ (n : ℕ). Agree n x y) all (c.loop-i.invariant x y one long other too).agree

pub returns-clause-differ : goal.returns-clause-differ
returns-clause-differ c = λ x y one long other too less. absurd (omega (arith, less))
