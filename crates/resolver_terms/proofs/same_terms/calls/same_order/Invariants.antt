-- The lists are one exactly where what is left of each is.
use Rattle.std.proofs.Common.{◌≡◌, ◌↔◌, drop, map}
use Rattle.resolver_terms.specs.SelectView.{sort_of}
use Rattle.resolver_terms.proofs.same_terms.calls.same_order.Given as goal

abbrev pub invariant-loop-x : goal.invariant-loop-x
invariant-loop-x l = (map sort_of (drop l.x-index l.a) ≡ map sort_of l.rest) ↔ (map sort_of l.a ≡ map sort_of l.b)
