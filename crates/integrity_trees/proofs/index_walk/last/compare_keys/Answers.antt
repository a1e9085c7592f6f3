use Rattle.std.proofs.Common.{◌≡◌, ℕ, refl, sym, subst, arith, rules}
use Rattle.integrity_trees.specs.wanted_entries.Unique.{Agree}
use Rattle.integrity_trees.proofs.lemmas.entry_prefixes.FieldLemmas.{agree_next, differ_next}
use Rattle.integrity_trees.proofs.lemmas.index_walk.ColumnLemmas.{agreed, all_agreed, decided, differ_of, equal_of, other_of, same_of, some_column}
use Rattle.integrity_trees.proofs.index_walk.last.compare_keys.Goals as goal

pub returns-in_default-clause-order : goal.returns-in_default-clause-order
returns-in_default-clause-order c = λ x y one one_long other other_long. absurd (c.in_default.ensures.none x one)

pub returns-in_default-clause-agree : goal.returns-in_default-clause-agree
returns-in_default-clause-agree c = λ x y one one_long other other_long. refl

pub returns-in_default-clause-differ : goal.returns-in_default-clause-differ
returns-in_default-clause-differ c = λ x y one one_long other other_long less. absurd (c.in_default.ensures.none x one)

pub returns-in_default-new-clause-order : goal.returns-in_default-new-clause-order
returns-in_default-new-clause-order c = λ x y one one_long other other_long. absurd (c.in_default-new.ensures.none y other)

pub returns-in_default-new-clause-agree : goal.returns-in_default-new-clause-agree
returns-in_default-new-clause-agree c = λ x y one one_long other other_long. refl

pub returns-in_default-new-clause-differ : goal.returns-in_default-new-clause-differ
returns-in_default-new-clause-differ c = λ x y one one_long other other_long less. absurd (c.in_default-new.ensures.none y other)

pub loop-at-init : goal.loop-at-init
loop-at-init c = record {
  passed = λ x y one one_long other other_long. record {
    xs = x;
    ys = y;
    left = c.args.columns;
    left_is = omega arith;
    one_is = (c.in-Some.ensures.found x).1 one;
    other_is = (c.in-Some-new.ensures.found y).1 other;
    one_long = one_long;
    other_long = other_long;
    same = refl;
  };
  agreed = λ x y one one_long other other_long. record {
    agree = refl;
    one_is = (c.in-Some.ensures.found x).1 one;
    other_is = (c.in-Some-new.ensures.found y).1 other;
  };
}

pub returns-in_default-column_order-clause-order : goal.returns-in_default-column_order-clause-order
returns-in_default-column_order-clause-order c = λ x y one one_long other other_long.
    absurd (some_column c.args.descends.now c.args.columns c.loop-at.at c.args.one.now c.args.other.now c.loop-at.first c.loop-at.second c.loop-at.invariant.passed c.loop-at-test.true
    x y one one_long other other_long c.in_default-column_order.ensures.none)

pub returns-in_default-column_order-clause-agree : goal.returns-in_default-column_order-clause-agree
returns-in_default-column_order-clause-agree c = λ x y one one_long other other_long. (c.loop-at.invariant.agreed x y one one_long other other_long).agree

pub returns-in_default-column_order-clause-differ : goal.returns-in_default-column_order-clause-differ
returns-in_default-column_order-clause-differ c = λ x y one one_long other other_long less.
    absurd (some_column c.args.descends.now c.args.columns c.loop-at.at c.args.one.now c.args.other.now c.loop-at.first c.loop-at.second c.loop-at.invariant.passed c.loop-at-test.true
    x y one one_long other other_long c.in_default-column_order.ensures.none)

pub returns-then-is_ne-clause-order : goal.returns-then-is_ne-clause-order
returns-then-is_ne-clause-order c = λ x y one one_long other other_long.
    let differ = other_of c.in-Some-column_order.order c.is_ne.result c.is_ne.ensures c.if-is_ne.true in
    let is = decided c.args.descends.now c.args.columns c.loop-at.at c.args.one.now c.args.other.now c.loop-at.first c.loop-at.second c.loop-at.invariant.passed c.loop-at-test.true
    x y one one_long other other_long c.in-Some-column_order.order differ c.column_order.new.one c.column_order.new.other (rw c.descends_at.ensures at c.in-Some-column_order.ensures.found) in
    sym is

pub returns-then-is_ne-clause-agree : goal.returns-then-is_ne-clause-agree
returns-then-is_ne-clause-agree c = λ x y one one_long other other_long. (c.loop-at.invariant.agreed x y one one_long other other_long).agree

pub returns-then-is_ne-clause-differ : goal.returns-then-is_ne-clause-differ
returns-then-is_ne-clause-differ c = λ x y one one_long other other_long less.
    let differ = other_of c.in-Some-column_order.order c.is_ne.result c.is_ne.ensures c.if-is_ne.true in
    differ_next x y c.loop-at.at c.loop-at.first c.loop-at.second (c.loop-at.invariant.agreed x y one one_long other other_long)
    (omega (arith, one_long, c.loop-at-test.true)) (omega (arith, other_long, c.loop-at-test.true))
    (λ a b xs ys first second.
    differ_of c.descends_at.result c.in-Some-column_order.order a b (c.in-Some-column_order.ensures.found a b xs ys first second).0 differ)

pub loop-at-preserved : goal.loop-at-preserved
loop-at-preserved c =
    let equal = equal_of c.in-Some-column_order.order c.is_ne.result c.is_ne.ensures c.if-is_ne.false in
    record {
      passed = λ x y one one_long other other_long.
          agreed c.args.descends.now c.args.columns c.loop-at.at c.args.one.now c.args.other.now c.loop-at.first c.loop-at.second c.loop-at.invariant.passed c.loop-at-test.true
          x y one one_long other other_long c.in-Some-column_order.order equal c.column_order.new.one c.column_order.new.other (rw c.descends_at.ensures at c.in-Some-column_order.ensures.found);
      agreed = λ x y one one_long other other_long.
          agree_next x y c.loop-at.at c.loop-at.first c.loop-at.second (c.loop-at.invariant.agreed x y one one_long other other_long)
          (omega (arith, one_long, c.loop-at-test.true)) (omega (arith, other_long, c.loop-at-test.true)) c.column_order.new.one c.column_order.new.other
          (λ a b xs ys first second.
          let told = c.in-Some-column_order.ensures.found a b xs ys first second in
          (same_of c.descends_at.result c.in-Some-column_order.order a b told.0 equal, told.1, told.2));
    }

pub returns-clause-order : goal.returns-clause-order
returns-clause-order c = λ x y one one_long other other_long.
    let is = all_agreed c.args.descends.now c.args.columns c.loop-at.at c.args.one.now c.args.other.now c.loop-at.first c.loop-at.second c.loop-at.invariant.passed (search rules)
    x y one one_long other other_long in
    sym is

pub returns-clause-agree : goal.returns-clause-agree
returns-clause-agree c = λ x y one one_long other other_long.
    let all : c.loop-at.at ≡ c.args.columns = search rules in
    subst (λ (n : ℕ). Agree n x y) all (c.loop-at.invariant.agreed x y one one_long other other_long).agree

pub returns-clause-differ : goal.returns-clause-differ
returns-clause-differ c = λ x y one one_long other other_long less. absurd (omega (arith, less))
