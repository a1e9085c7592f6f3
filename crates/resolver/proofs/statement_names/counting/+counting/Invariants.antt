-- The count so far is that of those before this one.
use Rattle.std.proofs.Common.{◌≡◌, map, sum_by, take}
use Rattle.resolver_bodies.specs.BodyView.{inner_of, joined_of}
use Rattle.values.specs.Bounds.{counted}
use Rattle.semantics_names.specs.Statement as spec
use Rattle.resolver.proofs.statement_names.counting.+counting.Given as goal

abbrev pub invariant-joined_count-loop-joined : goal.invariant-joined_count-loop-joined
invariant-joined_count-loop-joined l =
    l.count ≡ counted (sum_by (λ j. spec.sources_of j.source) (map joined_of (take l.joined-index l.sources)))

abbrev pub invariant-inner_count-loop-query : goal.invariant-inner_count-loop-query
invariant-inner_count-loop-query l = l.count ≡ counted (sum_by spec.sources_of_inner (map inner_of (take l.query-index l.queries)))
