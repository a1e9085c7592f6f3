-- The lists are one exactly where what is left of each is.
use Rattle.std.proofs.Common.{◌≡◌, ◌↔◌, drop, map}
use Rattle.resolver_terms.specs.SelectView.{call_of}
use Rattle.resolver_bodies.proofs.same_bodies.selects.same_calls.Given as goal

abbrev pub invariant-loop-x : goal.invariant-loop-x
invariant-loop-x l = (map call_of (drop l.x-index l.a) ≡ map call_of l.rest) ↔ (map call_of l.a ≡ map call_of l.b)
