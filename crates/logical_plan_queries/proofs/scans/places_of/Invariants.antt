use Rattle.std.proofs.Common.{◌≡◌, map, take}
use Rattle.expr.specs.Term.{column}
use Rattle.expr.specs.View.{term}
use Rattle.logical_plan_queries.proofs.scans.places_of.Given as goal

abbrev pub invariant-loop-t : goal.invariant-loop-t
invariant-loop-t l = map term (take l.t-index l.terms) ≡ map column l.places.items
