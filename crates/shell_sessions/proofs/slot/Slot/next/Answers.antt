use Rattle.std.proofs.Common.{sym, subst}
use Rattle.shell_sessions.specs.Replies.{asks, base_of}
use Rattle.shell_sessions.specs.Stands.{Replied, SlotStandsAt}
use Rattle.shell_sessions.specs.declared.slot.Slot.{Slot}
use Rattle.shell_sessions.specs.declared.step.Reply.TheVariants as answers
use Rattle.values.specs.declared.fault.Fault.TheVariants.{Finished, NoStatement}
use Rattle.shell_sessions.proofs.SlotLemmas.{closed_asked, ended_asked, end_asked, fault_asked, row_asked}
use Rattle.shell_sessions.proofs.slot.Slot.next.Goals as goal

pub returns-in-Closed-clause-replies : goal.returns-in-Closed-clause-replies
returns-in-Closed-clause-replies g c = λ at stands.
    subst (λ (s : Slot). Replied (base_of c.args.engine.now) asks at (answers.Fault NoStatement) (SlotStandsAt c.args.engine.now s)) (sym c.in-Closed.is)
    (closed_asked c.args.engine.now c.args.engine.now at (subst (λ (s : Slot). SlotStandsAt c.args.engine.now s at) c.in-Closed.is stands))

pub returns-in-Ok-Some-clause-replies : goal.returns-in-Ok-Some-clause-replies
returns-in-Ok-Some-clause-replies g c = λ at stands.
    row_asked c.args.engine.now c.next_row.new.self c.in-Running.statement c.next_row.new.statement c.in-Ok-Some.row at
    (rw (c.in-Ok-Some.is, c.in-Ok-Some.field-0-is) at c.next_row.ensures.step)
    (subst (λ (s : Slot). SlotStandsAt c.args.engine.now s at) c.in-Running.is stands)

pub returns-in-Ok-None-clause-replies : goal.returns-in-Ok-None-clause-replies
returns-in-Ok-None-clause-replies g c = λ at stands.
    subst (λ (s : Slot). Replied (base_of c.args.engine.now) asks at answers.End (SlotStandsAt c.next_row.new.self s)) (sym c.end.ensures)
    (end_asked c.args.engine.now c.next_row.new.self c.in-Running.statement c.next_row.new.statement at
    (rw (c.in-Ok-None.is, c.in-Ok-None.field-0-is) at c.next_row.ensures.step)
    (subst (λ (s : Slot). SlotStandsAt c.args.engine.now s at) c.in-Running.is stands))

pub returns-in-Err-clause-replies : goal.returns-in-Err-clause-replies
returns-in-Err-clause-replies g c = λ at stands.
    subst (λ (s : Slot). Replied (base_of c.args.engine.now) asks at (answers.Fault c.in-Err.fault) (SlotStandsAt c.next_row.new.self s)) (sym c.end-in-Err.ensures)
    (fault_asked c.args.engine.now c.next_row.new.self c.in-Running.statement c.next_row.new.statement c.in-Err.fault at
    (rw c.in-Err.is at c.next_row.ensures.step)
    (subst (λ (s : Slot). SlotStandsAt c.args.engine.now s at) c.in-Running.is stands))

pub returns-in-Ended-clause-replies : goal.returns-in-Ended-clause-replies
returns-in-Ended-clause-replies g c = λ at stands.
    subst (λ (s : Slot). Replied (base_of c.args.engine.now) asks at (answers.Fault Finished) (SlotStandsAt c.args.engine.now s)) (sym c.in-Ended.is)
    (ended_asked c.args.engine.now c.args.engine.now at (subst (λ (s : Slot). SlotStandsAt c.args.engine.now s at) c.in-Ended.is stands))
