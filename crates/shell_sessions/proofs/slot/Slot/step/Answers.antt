use Rattle.shell_sessions.proofs.slot.Slot.step.Goals as goal

pub returns-in-Close-clause-sound : goal.returns-in-Close-clause-sound
returns-in-Close-clause-sound g c = c.close.ensures.sound c.args.engine.now.tables
