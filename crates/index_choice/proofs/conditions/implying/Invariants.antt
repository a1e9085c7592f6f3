use Rattle.std.proofs.Common.{◌≡◌, ◌++◌, drop, map}
use Rattle.expr.specs.View.{term}
use Rattle.index_choice.specs.Conditions.{implying, implying_from}
use Rattle.index_choice.proofs.conditions.implying.Given as goal

abbrev pub invariant-loop-at : goal.invariant-loop-at
invariant-loop-at l = implying (map term l.conjuncts) (term l.condition) ≡ l.places.items ++ implying_from l.at (term l.condition) (drop l.at (map term l.conjuncts))
