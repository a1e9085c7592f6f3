use Rattle.std.proofs.Common.{Ok}
use Rattle.values.specs.Sink.{Writes}
use Rattle.explain.specs.PlanText.{indent}
use Rattle.explain.proofs.plans.write_indent.Given as goal

abbrev pub invariant-loop : goal.invariant-loop
invariant-loop g l = Writes {T = Unit {0}} (indent l.counter) (Ok (tt {0})) (g.S.Sink.facts l.initial.out) (g.S.Sink.facts l.out)
