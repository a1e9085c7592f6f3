use Rattle.std.proofs.Common.{◌∙◌, ◌≤◌, length, arith, subst, sym}
use Rattle.shell_sessions.specs.Replies.{base_of, request_of, slot_of}
use Rattle.shell_sessions.specs.Stands.{Replied, SlotStands}
use Rattle.shell_sessions.specs.declared.step.Reply.TheVariants as answers
use Rattle.values.specs.declared.fault.Fault.{Fault}
use Rattle.shell_sessions.proofs.RunLemmas.{made_there, none_there, others_kept}
use Rattle.shell_sessions.proofs.slots.make_step.Goals as goal

pub returns-then-at-slots-clause-replies : goal.returns-then-at-slots-clause-replies
returns-then-at-slots-clause-replies g c = λ at stands.
    let past : length c.args.slots.now ≤ slot_of c.args.step.now = omega (arith, c.if-at-slots.true, c.from-at.ensures, c.slot.ensures) in
    subst
    (λ (fault : Fault). Replied (base_of c.args.engine.now) (request_of c.args.step.now) at (answers.Fault fault)
    (SlotStands c.args.engine.now c.args.slots.now (slot_of c.args.step.now)))
    (sym c.missing_slot.ensures)
    (none_there c.args.engine.now c.args.engine.now c.args.slots.now (slot_of c.args.step.now) (request_of c.args.step.now) at past stands)

pub returns-clause-replies : goal.returns-clause-replies
returns-clause-replies g c = λ at stands.
    made_there c.args.engine.now c.step.new.engine c.args.slots.now c.from-at.result (slot_of c.args.step.now) _ c.step.new.self (request_of c.args.step.now)
    c.step.result (c.from-at.ensures ∙ c.slot.ensures) c.if-at-slots.false c.step.ensures.replies at stands

pub returns-clause-others : goal.returns-clause-others
returns-clause-others g c = λ number at apart stands.
    others_kept c.args.engine.now c.step.new.engine c.step.ensures.image c.args.slots.now c.from-at.result (slot_of c.args.step.now) c.step.new.self
    (c.from-at.ensures ∙ c.slot.ensures) number at apart stands
