use Rattle.std.proofs.Common.{◌<◌, length, refl, rules}
use Rattle.schema.proofs.DoubleLemmas.{doubled_here, none_at_end, none_doubled, none_more}
use Rattle.schema.proofs.doubles.are_doubled.Goals as goal

pub loop-place-init : goal.loop-place-init
loop-place-init c = none_doubled c.args.rows.now

pub returns-then-repeats : goal.returns-then-repeats
returns-then-repeats c =
    let within : c.loop-place.place < length c.args.rows.now = search rules in (
      (λ e. doubled_here c.args.rows.now c.loop-place.place c.index-rows-place.result c.repeats.result within c.index-rows-place.is
          c.repeats.ensures c.if-repeats.true),
      (λ d. refl),
    )

pub loop-place-preserved : goal.loop-place-preserved
loop-place-preserved c =
    let within : c.loop-place.place < length c.args.rows.now = search rules in
    none_more c.args.rows.now c.loop-place.place c.index-rows-place.result c.repeats.result within c.index-rows-place.is
    c.repeats.ensures c.if-repeats.false c.loop-place.invariant

pub returns : goal.returns
returns c =
    ((λ e. absurd cc), (λ d. absurd (none_at_end c.args.rows.now c.loop-place.place c.loop-place-test.false c.loop-place.invariant d)))
