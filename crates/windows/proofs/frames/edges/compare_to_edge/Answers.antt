use Rattle.std.proofs.Common.{◌≡◌, ◌∙◌, drop, map, sym, ap, arith, to_z, of_z}
use Rattle.std.specs.Int.{w128}
use Rattle.std.specs.Ordering.{ordering_then}
use Rattle.std.proofs.lemmas.Int.{ints}
use Rattle.values.specs.Datum.{datum_of}
use Rattle.semantics.specs.Sequence.{directed_cmp, keys_cmp, value_at}
use Rattle.semantics.specs.Windows.{moved}
use Rattle.resolver_terms.specs.SelectView.{direction_of}
use Rattle.windows.proofs.lemmas.frames.EdgeLemmas.{to_edge, differs_first}
use Rattle.windows.proofs.frames.edges.compare_to_edge.Goals as goal

pub returns-in_default : goal.returns-in_default
returns-in_default c =
    let ways = map direction_of c.args.directions.now in
    let x = map datum_of c.args.keys.now in
    let y = map datum_of c.args.here.now in
    let d = c.in-Some.direction.now in
    let rest = keys_cmp (drop 1 ways) (drop 1 x) (drop 1 y) in
    let by : to_z w128 (of_z w128 c.args.by) ≡ c.args.by = omega (arith, ints) in
    differs_first c.compare_first_moved.result rest c.in_default.not-Equal
    ∙ ap (λ o. ordering_then o rest) (c.compare_first_moved.ensures ∙ ap (λ b. directed_cmp (direction_of d) (value_at x 0) (moved d.descending b (value_at y 0))) by)
    ∙ sym (to_edge c.args.directions.now d c.args.by x y c.in-Some.ensures.value)
