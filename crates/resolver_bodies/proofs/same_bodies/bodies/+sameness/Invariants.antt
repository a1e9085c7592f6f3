-- The lists are one exactly where what is left of each is.
use Rattle.std.proofs.Common.{◌≡◌, ◌↔◌, drop, map}
use Rattle.resolver_bodies.specs.BodyView.{inner_of, joined_of}
use Rattle.resolver_bodies.proofs.same_bodies.bodies.+sameness.Given as goal

abbrev pub invariant-same_sources-loop-x : goal.invariant-same_sources-loop-x
invariant-same_sources-loop-x l = (map joined_of (drop l.x-index l.a) ≡ map joined_of l.rest) ↔ (map joined_of l.a ≡ map joined_of l.b)

abbrev pub invariant-same_queries-loop-x : goal.invariant-same_queries-loop-x
invariant-same_queries-loop-x l = (map inner_of (drop l.x-index l.a) ≡ map inner_of l.rest) ↔ (map inner_of l.a ≡ map inner_of l.b)
