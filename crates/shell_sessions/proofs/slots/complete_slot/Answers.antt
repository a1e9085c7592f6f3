use Rattle.shell_sessions.proofs.RunLemmas.{completed_there, others_kept}
use Rattle.shell_sessions.proofs.slots.complete_slot.Goals as goal

pub returns-clause-rows : goal.returns-clause-rows
returns-clause-rows g c = λ at stands.
    completed_there c.args.engine.now c.complete.new.engine c.args.slots.now c.from-at.result c.args.slot _ c.complete.new.self c.complete.result
    c.from-at.ensures c.if-at-slots.false c.complete.ensures.rows at stands

pub returns-clause-others : goal.returns-clause-others
returns-clause-others g c = λ number at apart stands.
    others_kept c.args.engine.now c.complete.new.engine c.complete.ensures.image c.args.slots.now c.from-at.result c.args.slot c.complete.new.self
    c.from-at.ensures number at apart stands
