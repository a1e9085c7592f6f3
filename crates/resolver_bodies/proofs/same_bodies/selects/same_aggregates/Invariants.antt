-- The lists are one exactly where what is left of each is.
use Rattle.std.proofs.Common.{◌≡◌, ◌↔◌, drop, map}
use Rattle.resolver_terms.specs.SelectView.{aggregate_of}
use Rattle.resolver_bodies.proofs.same_bodies.selects.same_aggregates.Given as goal

abbrev pub invariant-loop-x : goal.invariant-loop-x
invariant-loop-x l = (map aggregate_of (drop l.x-index l.a) ≡ map aggregate_of l.rest) ↔ (map aggregate_of l.a ≡ map aggregate_of l.b)
