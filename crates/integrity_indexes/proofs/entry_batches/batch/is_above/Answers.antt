use Rattle.std.proofs.Common.{rules, ◌-◌, SFits, length, sym, w64}
use Rattle.std.proofs.lemmas.Int.{to_z-of_z}
use Rattle.integrity_indexes.proofs.lemmas.entry_batches.KeyLemmas.{all_below, less_true, true_less}
use Rattle.integrity_indexes.proofs.entry_batches.batch.is_above.Goals as goal

pub returns-in-Some : goal.returns-in-Some
returns-in-Some c =
    let fits : SFits w64 c.in-Some.slot.now.key = search rules in
    rw (to_z-of_z w64 c.in-Some.slot.now.key fits, to_z-of_z w64 c.args.key c.ranges.key) (
      λ t. all_below c.args.slots.now c.requires c.args.key c.in-Some.slot.now (sym c.in-Some.ensures.value) (less_true _ _ t),
      λ less. true_less _ _ (less (length c.args.slots.now - 1) c.in-Some.slot.now (sym c.in-Some.ensures.value)),
    )
