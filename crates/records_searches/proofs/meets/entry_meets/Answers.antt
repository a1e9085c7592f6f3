use Rattle.std.proofs.Common.{◌≡◌, ◌+◌, ◌<◌, length, true, false, arith, rules}
use Rattle.btree_cursor.specs.key_ranges.View.{edge_option}
use Rattle.btree_cursor.proofs.lemmas.index_entries.KeyLemmas.{IfNone-always}
use Rattle.records_searches.proofs.MeetsLemmas.{decided, none_at_all, none_at_all_if, one_passed, rest_decides_if}
use Rattle.records_searches.proofs.meets.entry_meets.Goals as goal

pub returns-in_err-same-clause-none : goal.returns-in_err-same-clause-none
returns-in_err-same-clause-none c =
    let bounds = c.args.bounds.now in
    IfNone-always c.from_residual.result
    (none_at_all bounds.equal.now (edge_option bounds.lower) (edge_option bounds.upper) c.args.entry.now c.loop-value.value-index c.loop-value.entry
    c.loop-value.invariant c.in_err-same.ensures.none)

pub returns-then-not-same-clause-found : goal.returns-then-not-same-clause-found
returns-then-not-same-clause-found c =
    let bounds = c.args.bounds.now in
    let other : c.in_ok-same.same ≡ false = search rules in
    let within : c.loop-value.value-index < length bounds.equal.now = omega arith in
    decided bounds.equal.now (edge_option bounds.lower) (edge_option bounds.upper) c.args.entry.now c.loop-value.value-index c.loop-value.entry
    c.loop-value.invariant c.value-item.result within c.value-item.is c.in_ok-same.same other (rw c.as_ref.ensures at c.in_ok-same.ensures.found)

pub loop-value-preserved : goal.loop-value-preserved
loop-value-preserved c =
    let bounds = c.args.bounds.now in
    let agrees : c.in_ok-same.same ≡ true = search rules in
    let within : c.loop-value.value-index < length bounds.equal.now = omega arith in
    one_passed bounds.equal.now (edge_option bounds.lower) (edge_option bounds.upper) c.args.entry.now c.loop-value.value-index c.loop-value.entry
    c.loop-value.invariant c.value-item.result within c.value-item.is c.field_equals.new.entry (c.loop-value.value-index + 1) c.in_ok-same.same (omega arith) agrees
    (rw c.as_ref.ensures at c.in_ok-same.ensures.found) c.in_ok-same.ensures.passed

pub returns-clause-found : goal.returns-clause-found
returns-clause-found c =
    let bounds = c.args.bounds.now in
    let all : c.loop-value.value-index ≡ length bounds.equal.now = search rules in
    rest_decides_if bounds.equal.now (edge_option bounds.lower) (edge_option bounds.upper) c.args.entry.now c.loop-value.value-index c.loop-value.entry
    c.loop-value.invariant all c.field_between.result c.field_between.ensures.found

pub returns-clause-none : goal.returns-clause-none
returns-clause-none c =
    let bounds = c.args.bounds.now in
    none_at_all_if bounds.equal.now (edge_option bounds.lower) (edge_option bounds.upper) c.args.entry.now c.loop-value.value-index c.loop-value.entry
    c.loop-value.invariant c.field_between.result c.field_between.ensures.none
