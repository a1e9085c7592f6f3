-- The copies so far are those before this one.
use Rattle.std.proofs.Common.{◌≡◌, map, string_bytes, take}
use Rattle.resolver_sources.proofs.source_names.names.copy_names.Given as goal

abbrev pub invariant-loop-name : goal.invariant-loop-name
invariant-loop-name l = map (λ n. string_bytes n) l.copies.items ≡ map (λ n. string_bytes n) (take l.name-index l.names)
