use Rattle.std.proofs.Common.{◌≡◌, ◌∙◌, true, false, arith, get_or, take, sym}
use Rattle.records_tables.specs.primary_rows.Firsts.{has_number}
use Rattle.records_tables.proofs.PlaceLemmas.{count_met, count_new, key_found, none_more}
use Rattle.records_tables.proofs.places.place_in_key.Goals.{then-not-contains, else-not-contains}
use Rattle.records_tables.proofs.places.place_in_key.Goals as goal

pub returns-then-other-column-clause-found : goal.returns-then-other-column-clause-found
returns-then-other-column-clause-found c =
    let is = key_found c.args.key.now c.loop-at.at c.args.column c.loop-at-test.true c.loop-at.invariant.none c.if-other-column.true in
    (is.0, c.loop-at.invariant.count_is ∙ is.1)

pub loop-at-preserved : goal.loop-at-preserved
loop-at-preserved c =
    let key = c.args.key.now in
    let at = c.loop-at.at in
    let told : c.contains.result ≡ has_number (take at key) (get_or key at 0) = c.contains.ensures.value in
    let kept = c.loop-at.invariant in
    elim c.if-not-contains.branch [
      | then-not-contains w ↦ record {
        count_is = let more = count_new key at c.args.column c.loop-at-test.true kept.none (sym told ∙ w.if-not-contains.true) in let before = kept.count_is in omega (arith, more, before);
        few = let before = kept.few in omega (arith, before);
        none = none_more key at c.args.column c.loop-at-test.true kept.none c.if-other-column.false;
      }
      | else-not-contains w ↦ record {
        count_is = let same = count_met key at c.args.column c.loop-at-test.true kept.none (sym told ∙ w.if-not-contains.false) in let before = kept.count_is in omega (arith, same, before);
        few = let before = kept.few in omega (arith, before);
        none = none_more key at c.args.column c.loop-at-test.true kept.none c.if-other-column.false;
      }
    ]
