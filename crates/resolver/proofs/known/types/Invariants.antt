-- The types so far are those of the columns before this one.
use Rattle.std.proofs.Common.{◌≡◌, map, take}
use Rattle.resolver.proofs.known.types.Given as goal

abbrev pub invariant-loop-column : goal.invariant-loop-column
invariant-loop-column l = l.types.items ≡ map (λ c. c.ty) (take l.column-index l.columns)
