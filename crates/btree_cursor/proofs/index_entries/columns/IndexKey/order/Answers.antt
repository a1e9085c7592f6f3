use Rattle.std.proofs.Common.{◌≡◌, ◌≢◌, ◌+◌, ◌<◌, length, arith, rules}
use Rattle.std.specs.declared.cmp.Ordering.TheVariants.{Equal}
use Rattle.btree_cursor.specs.key_ranges.View.{value_list}
use Rattle.btree_cursor.proofs.lemmas.index_entries.KeyLemmas.{IfNone-always, decided, last_none, no_more, no_order, one_more, one_passed}
use Rattle.btree_cursor.proofs.index_entries.columns.IndexKey.order.Goals as goal

pub returns-in_err-order-clause-none : goal.returns-in_err-order-clause-none
returns-in_err-order-clause-none c =
    let key = c.args.self.now in
    IfNone-always c.from_residual.result
    (no_order key.descends.now key.equal.now (value_list key.end.value) c.args.entry.now c.loop-at.at c.loop-at.entry c.loop-at.invariant c.in_err-order.ensures.none)

pub returns-then-ne-clause-found : goal.returns-then-ne-clause-found
returns-then-ne-clause-found c =
    let key = c.args.self.now in
    let other : c.in_ok-order.order ≢ Equal = search rules in
    let within : c.loop-at.at < length key.equal.now = omega arith in
    decided key.descends.now key.equal.now (value_list key.end.value) c.args.entry.now c.loop-at.at c.loop-at.entry c.loop-at.invariant
    c.value-item.result within c.value-item.is c.in_ok-order.order other
    (rw (c.descends_at.ensures, c.as_ref.ensures) at c.in_ok-order.ensures.found)

pub loop-at-preserved : goal.loop-at-preserved
loop-at-preserved c =
    let key = c.args.self.now in
    let equal : c.in_ok-order.order ≡ Equal = search rules in
    let within : c.loop-at.at < length key.equal.now = omega arith in
    one_passed key.descends.now key.equal.now (value_list key.end.value) c.args.entry.now c.loop-at.at c.loop-at.entry c.loop-at.invariant
    c.value-item.result within c.value-item.is c.field_order.new.entry (c.loop-at.at + 1) c.in_ok-order.order (omega arith) equal
    (rw (c.descends_at.ensures, c.as_ref.ensures) at c.in_ok-order.ensures.found) c.in_ok-order.ensures.passed

pub returns-in_default-clause-found : goal.returns-in_default-clause-found
returns-in_default-clause-found c =
    let key = c.args.self.now in
    let all : c.loop-at.at ≡ length key.equal.now = search rules in
    no_more key.descends.now key.equal.now c.loop-at.at c.args.entry.now c.loop-at.entry all key.end.value c.in_default.is c.loop-at.invariant

pub returns-clause-found : goal.returns-clause-found
returns-clause-found c =
    let key = c.args.self.now in
    let all : c.loop-at.at ≡ length key.equal.now = search rules in
    one_more key.descends.now key.equal.now c.loop-at.at c.args.entry.now c.loop-at.entry all key.end.value c.in-Some.value c.in-Some.is c.loop-at.invariant
    c.field_order-2.result (rw c.descends_at-2.ensures at c.field_order-2.ensures.found)

pub returns-clause-none : goal.returns-clause-none
returns-clause-none c =
    let key = c.args.self.now in
    last_none key.descends.now key.equal.now (value_list key.end.value) c.args.entry.now c.loop-at.at c.loop-at.entry c.loop-at.invariant
    c.field_order-2.result c.field_order-2.ensures.none
