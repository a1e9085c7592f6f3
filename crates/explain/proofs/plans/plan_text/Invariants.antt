use Rattle.std.proofs.Common.{take, map, Ok}
use Rattle.values.specs.Sink.{Writes}
use Rattle.explain.specs.PlanText.{line_data, plan_text}
use Rattle.explain.proofs.plans.plan_text.Given as goal

abbrev pub invariant-loop-line : goal.invariant-loop-line
invariant-loop-line g l =
    Writes (plan_text (map line_data (take l.line-index l.lines))) (Ok (tt {0})) (g.S.Sink.facts l.initial.out) (g.S.Sink.facts l.out)
