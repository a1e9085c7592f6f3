use Rattle.std.proofs.Common.{◌≡◌, replicate}
use Rattle.shell_sessions.specs.declared.slot.Slot.TheVariants.{Closed}
use Rattle.shell_sessions.proofs.slots.closed_slots.Given as goal

abbrev pub invariant-loop : goal.invariant-loop
invariant-loop l = l.slots.items ≡ replicate l.counter Closed
