use Rattle.std.proofs.Common.{◌≡◌, ◌∙◌, List, [], ◌∷◌, ◌++◌, false, true, ap, refl, subst, sym, w64}
use Rattle.std.proofs.lemmas.Int.{to_z-of_z}
use Rattle.std.proofs.lemmas.Result.{err_from_is_err_and}
use Rattle.integrity_trees.specs.wanted_entries.Bags.{Coded}
use Rattle.integrity_indexes.specs.declared.entry_batches.batch.Slot.{Slot}
use Rattle.integrity_indexes.specs.entry_batches.Batches.{AreBelow, ComeBefore, IsBatch, coded, last_end}
use Rattle.integrity_indexes.proofs.lemmas.entry_batches.AddLemmas.{batch_kept, batch_longer, batch_pushed, entries_pushed, same_kept, same_longer}
use Rattle.integrity_indexes.proofs.lemmas.entry_batches.KeyLemmas.{are_below, come_before}
use Rattle.integrity_indexes.proofs.entry_batches.batch.Batch.add.Goals as goal

pub returns-then-not-is_above-clause-above : goal.returns-then-not-is_above-clause-above
returns-then-not-is_above-clause-above c =
    let tells = rw (to_z-of_z w64 c.args.key c.ranges.key) at c.is_above.ensures in (
      λ t. absurd (let e : false ≡ true = t in cc),
      λ before. absurd (let t = tells.1 (subst (AreBelow c.args.key) (sym c.as_slice.ensures.value)
          (are_below c.self.inside.slots.items c.self.inside.codes.items c.args.key (subst (ComeBefore c.args.key) (sym c.self.view_is) before))) in
          let e : false ≡ true = sym c.if-not-is_above.true ∙ t in cc),
    )

pub invariant_of-self : goal.invariant_of-self
invariant_of-self c = batch_kept c.self.inside.slots.items c.self.inside.codes.items c.self.invariant c.end_of-start.result
    (c.end_of-start.ensures ∙ ap (last_end 0) c.as_slice-2.ensures.value) _ (c.in_err-extend_from_slice.ensures.items ∙ c.truncate.ensures.items)

pub returns-in_err-extend_from_slice-clause-err : goal.returns-in_err-extend_from_slice-clause-err
returns-in_err-extend_from_slice-clause-err c =
    let p = err_from_is_err_and c.from_residual.result c.from_residual.ensures.1 in
    rw p.1
    (same_kept c.self.inside.slots.items c.self.inside.codes.items c.self.invariant c.end_of-start.result
    (c.end_of-start.ensures ∙ ap (last_end 0) c.as_slice-2.ensures.value) _ (c.in_err-extend_from_slice.ensures.items ∙ c.truncate.ensures.items) ∙ c.self.view_is)

pub invariant_of-self-in_err-push : goal.invariant_of-self-in_err-push
invariant_of-self-in_err-push c =
    subst (λ (s : List Slot). IsBatch s c.extend_from_slice.new.self.items) (sym c.in_err-push.ensures.items)
    (batch_longer c.self.inside.slots.items c.self.inside.codes.items c.self.invariant c.end_of-start.result
    (c.end_of-start.ensures ∙ ap (last_end 0) c.as_slice-2.ensures.value) _ c.truncate.ensures.items c.args.code.now _ c.in_ok-extend_from_slice.ensures.items)

pub returns-in_err-push-clause-err : goal.returns-in_err-push-clause-err
returns-in_err-push-clause-err c =
    let p = err_from_is_err_and c.from_residual-in_err-push.result c.from_residual-in_err-push.ensures.1 in
    rw p.1
    (ap (λ (s : List Slot). coded 0 s c.extend_from_slice.new.self.items) c.in_err-push.ensures.items
    ∙ same_longer c.self.inside.slots.items c.self.inside.codes.items c.self.invariant c.end_of-start.result
    (c.end_of-start.ensures ∙ ap (last_end 0) c.as_slice-2.ensures.value) _ c.truncate.ensures.items c.args.code.now _ c.in_ok-extend_from_slice.ensures.items ∙ c.self.view_is)

pub invariant_of-self-2 : goal.invariant_of-self-2
invariant_of-self-2 c =
    let tells = rw (to_z-of_z w64 c.args.key c.ranges.key) at c.is_above.ensures in
    let above = subst (AreBelow c.args.key) c.as_slice.ensures.value (tells.0 c.if-not-is_above.false) in
    let items = rw (to_z-of_z w64 c.args.key c.ranges.key) at c.in_ok-push.ensures.items in
    batch_pushed c.self.inside.slots.items c.self.inside.codes.items c.self.invariant c.end_of-start.result
    (c.end_of-start.ensures ∙ ap (last_end 0) c.as_slice-2.ensures.value) _ c.truncate.ensures.items c.args.code.now _ c.in_ok-extend_from_slice.ensures.items
    (record { key = c.args.key; end = c.len.result }) (c.len.ensures ∙ c.extend_from_slice.new.self.ok.0) above _ items

pub returns-clause-above : goal.returns-clause-above
returns-clause-above c =
    let tells = rw (to_z-of_z w64 c.args.key c.ranges.key) at c.is_above.ensures in
    let above = subst (AreBelow c.args.key) c.as_slice.ensures.value (tells.0 c.if-not-is_above.false) in (
      λ t. subst (ComeBefore c.args.key) c.self.view_is (come_before c.self.inside.slots.items c.self.inside.codes.items c.args.key above),
      λ before. refl,
    )

pub returns-clause-added : goal.returns-clause-added
returns-clause-added c =
    let tells = rw (to_z-of_z w64 c.args.key c.ranges.key) at c.is_above.ensures in
    let above = subst (AreBelow c.args.key) c.as_slice.ensures.value (tells.0 c.if-not-is_above.false) in
    let items = rw (to_z-of_z w64 c.args.key c.ranges.key) at c.in_ok-push.ensures.items in (
      λ t. entries_pushed c.self.inside.slots.items c.self.inside.codes.items c.self.invariant c.end_of-start.result
          (c.end_of-start.ensures ∙ ap (last_end 0) c.as_slice-2.ensures.value) _ c.truncate.ensures.items c.args.code.now _ c.in_ok-extend_from_slice.ensures.items
          (record { key = c.args.key; end = c.len.result }) (c.len.ensures ∙ c.extend_from_slice.new.self.ok.0) above _ items
          ∙ ap (λ (l : List Coded). l ++ record { key = c.args.key; code = c.args.code.now } ∷ []) c.self.view_is,
      λ no. absurd (let e : true ≡ false = no in cc),
    )
