use Rattle.std.proofs.Common.{subst, sym}
use Rattle.shell_sessions.specs.Replies.{base_of}
use Rattle.shell_sessions.specs.Stands.{HasCompleted, SlotStandsAt}
use Rattle.shell_sessions.specs.declared.slot.Slot.{Slot}
use Rattle.shell_sessions.proofs.SlotLemmas.{completed}
use Rattle.shell_sessions.proofs.slot.Slot.complete.Goals as goal

pub returns-in-Running-clause-rows : goal.returns-in-Running-clause-rows
returns-in-Running-clause-rows g c = λ at stands.
    subst (λ (s : Slot). HasCompleted (base_of c.args.engine.now) at c.rows_behind-rows.result (SlotStandsAt c.rows_behind-rows.new.engine s)) (sym c.end.ensures)
    (completed c.args.engine.now c.rows_behind-rows.new.engine c.in-Running.statement c.rows_behind-rows.result at c.rows_behind-rows.ensures.rows
    (subst (λ (s : Slot). SlotStandsAt c.args.engine.now s at) c.in-Running.is stands))
