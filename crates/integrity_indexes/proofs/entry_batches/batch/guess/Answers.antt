use Rattle.std.proofs.Common.{rules, ◌∙◌, SFits, ap, get_or, pos, sym, to_z, w64}
use Rattle.std.proofs.lemmas.Int.{to_z-of_z}
use Rattle.std.proofs.lemmas.Option.{slice_get-get_or}
use Rattle.integrity_indexes.specs.declared.entry_batches.batch.Slot.{Slot}
use Rattle.integrity_indexes.proofs.entry_batches.batch.guess.Goals as goal

pub returns-then-slots-place : goal.returns-then-slots-place
returns-then-slots-place c =
    let here : Slot = get_or c.args.slots.now c.in-Ok.place (record { key = pos 0; end = 0 }) in
    let fits : SFits w64 here.key = search rules in
    record {
      slot = here;
      at = slice_get-get_or c.args.slots.now c.in-Ok.place (record { key = pos 0; end = 0 }) c.if-place-slots.true;
      key_is = sym (to_z-of_z w64 here.key fits) ∙ ap (to_z w64) c.if-slots-place.true ∙ to_z-of_z w64 c.args.key c.ranges.key;
    }
