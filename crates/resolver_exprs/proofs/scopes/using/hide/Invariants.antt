-- The columns before this one are changed, and the others are not.
use Rattle.std.proofs.Common.{◌≡◌, ◌++◌, drop, map, take}
use Rattle.resolver_exprs.specs.scopes.Using.{hidden_column}
use Rattle.resolver_exprs.proofs.scopes.using.hide.Given as goal

abbrev pub invariant-loop-shown : goal.invariant-loop-shown
invariant-loop-shown l =
    l.columns ≡ map (hidden_column l.name) (take l.shown-index l.initial.columns) ++ drop l.shown-index l.initial.columns
