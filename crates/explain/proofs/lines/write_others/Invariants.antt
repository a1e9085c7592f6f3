use Rattle.std.proofs.Common.{take, Ok}
use Rattle.std.specs.List.{flat_map}
use Rattle.values.specs.Sink.{Writes}
use Rattle.explain.specs.Text.{after_comma}
use Rattle.explain.proofs.lines.write_others.Given as goal

abbrev pub invariant-loop-value : goal.invariant-loop-value
invariant-loop-value g l =
    Writes (flat_map (λ v. after_comma (g.V.Shown.datum v)) (take l.value-index l.values)) (Ok (tt {0}))
    (g.S.Sink.facts l.initial.out) (g.S.Sink.facts l.out)
