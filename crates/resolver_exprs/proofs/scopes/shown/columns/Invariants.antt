use Rattle.std.proofs.Common.{◌≡◌, map, take}
use Rattle.expr.specs.Term.{column}
use Rattle.expr.specs.View.{term}
use Rattle.resolver_exprs.proofs.scopes.shown.columns.Given as goal

abbrev pub invariant-loop-at : goal.invariant-loop-at
invariant-loop-at l = map term l.items.items ≡ map column (take l.at-index l.places)
