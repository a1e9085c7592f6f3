-- The columns before this one are changed, and the others are not.
use Rattle.std.proofs.Common.{◌≡◌, ◌++◌, drop, map, take}
use Rattle.resolver_exprs.specs.scopes.Using.{merged_column}
use Rattle.resolver_exprs.proofs.scopes.using.merge.Given as goal

abbrev pub invariant-loop-shown : goal.invariant-loop-shown
invariant-loop-shown l =
    l.columns ≡ map (merged_column l.name l.places) (take l.shown-index l.initial.columns) ++ drop l.shown-index l.initial.columns
