use Rattle.shell_sessions.specs.Replies.{base_of, closes}
use Rattle.shell_sessions.specs.Stands.{Replied, SlotStandsAt}
use Rattle.shell_sessions.specs.declared.slot.Slot.{Slot}
use Rattle.shell_sessions.specs.declared.step.Reply.TheVariants as answers
use Rattle.std.proofs.Common.{sym, subst}
use Rattle.values.specs.declared.fault.Fault.TheVariants.{NoStatement}
use Rattle.shell_sessions.proofs.SlotLemmas.{closed_closed, closing}
use Rattle.shell_sessions.proofs.slot.Slot.close.Goals as goal

pub returns-in-Closed-clause-replies : goal.returns-in-Closed-clause-replies
returns-in-Closed-clause-replies c = λ engine at stands.
    subst (λ (s : Slot). Replied (base_of engine) closes at (answers.Fault NoStatement) (SlotStandsAt engine s)) (sym c.in-Closed.is)
    (closed_closed engine at (subst (λ (s : Slot). SlotStandsAt engine s at) c.in-Closed.is stands))

pub returns-in-Running-clause-replies : goal.returns-in-Running-clause-replies
returns-in-Running-clause-replies c = λ engine at stands. closing engine c.args.self.now at c.in-Running.is stands
