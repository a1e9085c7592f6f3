use Rattle.std.proofs.Common.{◌≡◌, ◌∙◌, ◌-◌, ◌≤◌, ℕ, suc, ap, arith, get_or, pos, subst, sym}
use Rattle.std.specs.List.{slice_range}
use Rattle.std.proofs.lemmas.Option.{slice_get-get_or}
use Rattle.integrity_indexes.specs.declared.entry_batches.batch.Slot.{Slot}
use Rattle.integrity_indexes.proofs.lemmas.entry_batches.CutLemmas.{code_here, lies_within, start_at, start_behind}
use Rattle.integrity_indexes.proofs.entry_batches.batch.bounds_of.Goals as goal

pub returns-then-place-eq0-clause-most : goal.returns-then-place-eq0-clause-most
returns-then-place-eq0-clause-most c =
    (lies_within 0 c.args.slots.now c.args.most c.args.place _ c.requires.cut (slice_get-get_or c.args.slots.now c.args.place (record { key = pos 0; end = 0 }) c.requires.within)).within

pub returns-else-place-eq0-clause-most : goal.returns-else-place-eq0-clause-most
returns-else-place-eq0-clause-most c =
    (lies_within 0 c.args.slots.now c.args.most c.args.place _ c.requires.cut (slice_get-get_or c.args.slots.now c.args.place (record { key = pos 0; end = 0 }) c.requires.within)).within

pub returns-else-place-eq0-clause-up : goal.returns-else-place-eq0-clause-up
returns-else-place-eq0-clause-up c =
    let slots = c.args.slots.now in
    let d : Slot = record { key = pos 0; end = 0 } in
    let within = c.requires.within in
    let e : suc (c.args.place - 1) ≡ c.args.place = omega (arith, c.if-place-eq0.false) in
    let begins : start_at 0 slots c.args.place ≡ (get_or slots (c.args.place - 1) d).end =
    ap (start_at 0 slots) (sym e) ∙ start_behind 0 slots (c.args.place - 1) (get_or slots (c.args.place - 1) d) (slice_get-get_or slots (c.args.place - 1) d (omega (arith, within))) in
    subst (λ (n : ℕ). n ≤ (get_or slots c.args.place d).end) begins
    (lies_within 0 slots c.args.most c.args.place (get_or slots c.args.place d) c.requires.cut (slice_get-get_or slots c.args.place d within)).up

pub returns-else-place-eq0-clause-code : goal.returns-else-place-eq0-clause-code
returns-else-place-eq0-clause-code c = λ codes.
    let slots = c.args.slots.now in
    let d : Slot = record { key = pos 0; end = 0 } in
    let within = c.requires.within in
    let e : suc (c.args.place - 1) ≡ c.args.place = omega (arith, c.if-place-eq0.false) in
    let begins : start_at 0 slots c.args.place ≡ (get_or slots (c.args.place - 1) d).end =
    ap (start_at 0 slots) (sym e) ∙ start_behind 0 slots (c.args.place - 1) (get_or slots (c.args.place - 1) d) (slice_get-get_or slots (c.args.place - 1) d (omega (arith, within))) in
    ap (λ (n : ℕ). slice_range codes n (get_or slots c.args.place d).end) (sym begins)
    ∙ sym (code_here 0 slots codes c.args.place (get_or slots c.args.place d) (slice_get-get_or slots c.args.place d within))
