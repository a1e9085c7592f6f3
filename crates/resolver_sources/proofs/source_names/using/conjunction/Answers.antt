use Rattle.std.proofs.Common.{[], ◌∷◌, Some, map, ap, sym, ◌∙◌}
use Rattle.std.proofs.lemmas.List.{map-append}
use Rattle.expr.specs.View.{term}
use Rattle.resolver_sources.proofs.lemmas.source_names.UsingLemmas.{so_far_more}
use Rattle.resolver_sources.specs.source_names.Matched.{and_then, so_far}
use Rattle.resolver_sources.proofs.source_names.using.conjunction.Goals as goal

pub loop-next-preserved : goal.loop-next-preserved
loop-next-preserved c =
    let t = term c.in-Some.next in
    ap Some (c.in_ok-and.ensures ∙ ap (λ all. and_then all t) c.loop-next.invariant)
    ∙ sym (so_far_more (map term c.loop-next.yielded) t)
    ∙ ap so_far (sym (map-append term c.loop-next.yielded (c.in-Some.next ∷ [])))
