use Rattle.std.proofs.Common.{◌≡◌, ◌-◌, Some, arith, length, slice_get, sym}
use Rattle.std.proofs.lemmas.Option.{slice_get_within}
use Rattle.integrity_indexes.proofs.lemmas.entry_batches.CutLemmas.{end_is}
use Rattle.integrity_indexes.proofs.entry_batches.batch.end_of.Goals as goal

pub returns-in-Some : goal.returns-in-Some
returns-in-Some c =
    let at : slice_get c.args.slots.now (length c.args.slots.now - 1) ≡ Some c.in-Some.slot.now = sym c.in-Some.ensures.value in
    let within = slice_get_within c.args.slots.now (length c.args.slots.now - 1) c.in-Some.slot.now at in
    sym (end_is 0 c.args.slots.now (length c.args.slots.now - 1) c.in-Some.slot.now (omega (arith, within)) at)
