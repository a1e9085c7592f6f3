-- The names so far are those of the columns before this one.
use Rattle.std.proofs.Common.{◌≡◌, map, string_bytes, take}
use Rattle.resolver.proofs.known.names.Given as goal

abbrev pub invariant-loop-column : goal.invariant-loop-column
invariant-loop-column l = map (λ n. string_bytes n) l.names.items ≡ map (λ c. c.name) (take l.column-index l.columns)
