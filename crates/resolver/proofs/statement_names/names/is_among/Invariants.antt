-- No name before this one is the same.
use Rattle.std.proofs.Common.{◌≡◌, drop, map, string_bytes}
use Rattle.semantics_names.specs.Statement as spec
use Rattle.resolver.proofs.statement_names.names.is_among.Given as goal

abbrev pub invariant-loop-other : goal.invariant-loop-other
invariant-loop-other l =
    spec.is_among l.name (map (λ n. string_bytes n) l.names) ≡ spec.is_among l.name (map (λ n. string_bytes n) (drop l.other-index l.names))
