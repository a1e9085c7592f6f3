use Rattle.std.proofs.Common.{◌≡◌, ◌∙◌, ◌∷◌, ◌++◌, [], List, ap, arith, replicate}
use Rattle.std.proofs.lemmas.List.{replicate_more}
use Rattle.shell_sessions.specs.declared.slot.Slot.{Slot}
use Rattle.shell_sessions.specs.declared.slot.Slot.TheVariants.{Closed}
use Rattle.shell_sessions.proofs.slots.closed_slots.Goals as goal

pub loop-preserved : goal.loop-preserved
loop-preserved c =
    c.in_ok-push.ensures.items ∙ ap (λ (slots : List Slot). slots ++ Closed ∷ []) c.loop.invariant ∙ replicate_more c.loop.counter Closed

pub returns : goal.returns
returns c =
    let end = c.loop.auto.counter-end in
    let e : c.loop.counter ≡ 16 = omega (arith, end, c.loop-test.false) in
    c.loop.invariant ∙ ap (λ n. replicate n Closed) e
