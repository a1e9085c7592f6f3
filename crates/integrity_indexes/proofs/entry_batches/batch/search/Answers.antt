use Rattle.std.proofs.Common.{rules, arith, ◌≡◌, ◌<◌, ◌+◌, ◌-◌, ◌/◌, ◌∙◌, ℕ, pos, ◌<ℤ◌, ◌≤ℤ◌, Some, length, get_or, slice_get, SFits, w64, to_z, of_z, sym, ap}
use Rattle.std.proofs.lemmas.Int.{to_z-of_z}
use Rattle.std.proofs.lemmas.Option.{slice_get-get_or, slice_get_within, get_or_from_slice_get}
use Rattle.integrity_indexes.specs.declared.entry_batches.batch.Slot.{Slot}
use Rattle.integrity_indexes.proofs.lemmas.entry_batches.KeyLemmas.{above, absent, below, less_false, less_true}
use Rattle.integrity_indexes.proofs.entry_batches.batch.search.Goals as goal
use Rattle.integrity_indexes.proofs.entry_batches.batch.search.Goals.{else-low-slots-via-then-low-slots+else-slots-low, else-low-slots-via-else-low-slots}

none : Slot
none = record { key = pos 0; end = 0 }

pub loop-low-preserved-then-slots-middle : goal.loop-low-preserved-then-slots-middle
loop-low-preserved-then-slots-middle c =
    let mid : ℕ = c.loop-low.low + (c.loop-low.high - c.loop-low.low) / 2 in
    let here : Slot = get_or c.args.slots.now mid (record { key = pos 0; end = 0 }) in
    let fits : SFits w64 here.key = search rules in
    let less : here.key <ℤ c.args.key = less_true here.key c.args.key (rw (to_z-of_z w64 here.key fits, to_z-of_z w64 c.args.key c.ranges.key) at c.if-slots-middle.true) in
    let inside : mid < length c.args.slots.now = omega (arith, c.loop-low.invariant.within, c.loop-low-test.true) in
    rw (to_z-of_z w64 c.args.key c.ranges.key) (record {
      within = c.loop-low.invariant.within;
      order = omega (arith, c.loop-low-test.true);
      below = λ i slot up at. below c.args.slots.now c.requires c.args.key mid here (slice_get-get_or c.args.slots.now mid (record { key = pos 0; end = 0 }) inside) less i slot (omega (arith, up)) at;
      above = rw (to_z-of_z w64 c.args.key c.ranges.key) at c.loop-low.invariant.above;
    })

pub loop-low-preserved : goal.loop-low-preserved
loop-low-preserved c =
    let mid : ℕ = c.loop-low.low + (c.loop-low.high - c.loop-low.low) / 2 in
    let here : Slot = get_or c.args.slots.now mid (record { key = pos 0; end = 0 }) in
    let fits : SFits w64 here.key = search rules in
    let least : c.args.key ≤ℤ here.key = less_false here.key c.args.key (rw (to_z-of_z w64 here.key fits, to_z-of_z w64 c.args.key c.ranges.key) at c.if-slots-middle.false) in
    let inside : mid < length c.args.slots.now = omega (arith, c.loop-low.invariant.within, c.loop-low-test.true) in
    rw (to_z-of_z w64 c.args.key c.ranges.key) (record {
      within = omega (arith, inside);
      order = omega arith;
      below = rw (to_z-of_z w64 c.args.key c.ranges.key) at c.loop-low.invariant.below;
      above = λ i slot up at. above c.args.slots.now c.requires c.args.key mid here (slice_get-get_or c.args.slots.now mid (record { key = pos 0; end = 0 }) inside) least i slot (omega (arith, up)) at;
    })

pub returns-then-slots-low-clause-found : goal.returns-then-slots-low-clause-found
returns-then-slots-low-clause-found c =
    let here : Slot = get_or c.args.slots.now c.loop-low.low (record { key = pos 0; end = 0 }) in
    let fits : SFits w64 here.key = search rules in
    record {
      slot = here;
      at = slice_get-get_or c.args.slots.now c.loop-low.low (record { key = pos 0; end = 0 }) c.if-low-slots.true;
      key_is = sym (to_z-of_z w64 here.key fits) ∙ ap (to_z w64) c.if-slots-low.true ∙ to_z-of_z w64 c.args.key c.ranges.key;
    }

pub returns-else-low-slots-clause-none : goal.returns-else-low-slots-clause-none
returns-else-low-slots-clause-none c =
    let inv = c.loop-low.invariant in
    let other : (slot : Slot) → slice_get c.args.slots.now c.loop-low.low ≡ Some slot → slot.key ≡ c.args.key → ⊥ = elim c.else-low-slots.branch [
      | else-low-slots-via-then-low-slots+else-slots-low w ↦ (λ slot at same.
          w.if-slots-low.false (ap (of_z w64) (ap (λ (s : Slot). s.key) (get_or_from_slice_get c.args.slots.now c.loop-low.low slot (record { key = pos 0; end = 0 }) at) ∙ same)))
      | else-low-slots-via-else-low-slots w ↦ (λ slot at same. let within = slice_get_within c.args.slots.now c.loop-low.low slot at in omega (arith, within, w.if-low-slots.false))
    ] in
    absent c.args.slots.now c.requires c.args.key c.loop-low.low c.loop-low.high
    (rw (to_z-of_z w64 c.args.key c.ranges.key) at inv.below) (rw (to_z-of_z w64 c.args.key c.ranges.key) at inv.above) c.loop-low-test.false other
