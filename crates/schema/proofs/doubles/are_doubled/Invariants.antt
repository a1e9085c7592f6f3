use Rattle.std.proofs.Common.{take}
use Rattle.schema.specs.Says.{Doubled}
use Rattle.schema.proofs.doubles.are_doubled.Given as goal

abbrev pub invariant-loop-place : goal.invariant-loop-place
invariant-loop-place l = ¬ Doubled (take l.place l.rows)
