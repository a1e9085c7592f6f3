use Rattle.std.proofs.Common.{subst, sym}
use Rattle.shell_sessions.specs.Replies.{base_of, opens}
use Rattle.shell_sessions.specs.Stands.{Replied, SlotStandsAt}
use Rattle.shell_sessions.specs.declared.slot.Slot.{Slot}
use Rattle.shell_sessions.specs.declared.step.Reply.TheVariants as answers
use Rattle.shell_sessions.proofs.SlotLemmas.{opening, taken, unopened}
use Rattle.shell_sessions.proofs.TextLemmas.{tells_none, text_fault}
use Rattle.shell_sessions.proofs.slot.Slot.open.Goals as goal

pub returns-in-Ok-clause-replies : goal.returns-in-Ok-clause-replies
returns-in-Ok-clause-replies g c = λ at stands.
    opening c.args.engine.now c.args.text.now c.in-Ok.started at c.in-Ok.ensures
    (subst (λ (s : Slot). SlotStandsAt c.args.engine.now s at) c.in-Closed.is stands)

pub returns-in-Err-clause-replies : goal.returns-in-Err-clause-replies
returns-in-Err-clause-replies g c = λ at stands.
    subst (λ (s : Slot). Replied (base_of c.args.engine.now) (opens c.args.text.now) at (answers.Fault c.in-Err.fault) (SlotStandsAt c.args.engine.now s)) (sym c.in-Closed.is)
    (unopened c.args.engine.now c.args.text.now c.in-Err.fault at c.in-Err.ensures
    (subst (λ (s : Slot). SlotStandsAt c.args.engine.now s at) c.in-Closed.is stands))

pub returns-in-Running-clause-replies : goal.returns-in-Running-clause-replies
returns-in-Running-clause-replies g c = λ at stands.
    taken c.args.engine.now c.args.text.now c.args.self.now at c.in-Running.is stands

pub returns-in-Err-clause-reads : goal.returns-in-Err-clause-reads
returns-in-Err-clause-reads g c =
    tells_none c.in-Err.fault c.args.engine.now.pager.source.failures
    (text_fault c.args.engine.now.tables c.args.text.now c.in-Err.fault c.in-Err.ensures)
