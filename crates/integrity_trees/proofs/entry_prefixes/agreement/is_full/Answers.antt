use Rattle.std.proofs.Common.{◌≡◌, ℕ, arith, false, true, refl, rules, subst, take}
use Rattle.integrity_trees.specs.wanted_entries.Unique.{HasNoNull}
use Rattle.integrity_trees.proofs.lemmas.entry_prefixes.FieldLemmas.{given_next, none_given, null_next}
use Rattle.integrity_trees.proofs.entry_prefixes.agreement.is_full.Goals as goal

pub returns-in_default : goal.returns-in_default
returns-in_default c = λ row is long. absurd (c.in_default.ensures.none row is)

pub loop-passed-init : goal.loop-passed-init
loop-passed-init c = λ row is long. none_given row c.in-Some.fields ((c.in-Some.ensures.found row).1 is)

pub returns-then-not-is_next_given : goal.returns-then-not-is_next_given
returns-then-not-is_next_given c = λ row is long. (
  λ yes. absurd (let e : false ≡ true = yes in cc),
  λ full. absurd (null_next row c.loop-passed._passed c.loop-passed.fields (c.loop-passed.invariant row is long) (omega (arith, long, c.loop-passed-test.true)) c.args.width
      c.loop-passed-test.true (c.is_next_given.ensures.not c.if-not-is_next_given.true) full),
)

pub loop-passed-preserved : goal.loop-passed-preserved
loop-passed-preserved c = λ row is long.
    given_next row c.loop-passed._passed c.loop-passed.fields (c.loop-passed.invariant row is long) (omega (arith, long, c.loop-passed-test.true))
    c.is_next_given.new.fields (c.is_next_given.ensures.given c.if-not-is_next_given.false)

pub returns : goal.returns
returns c = λ row is long.
    let all : c.loop-passed._passed ≡ c.args.width = search rules in
    (λ yes. subst (λ (n : ℕ). HasNoNull (take n row)) all (c.loop-passed.invariant row is long).full, λ full. refl)
