-- Each name before this one stands once.
use Rattle.std.proofs.Common.{◌≡◌, drop, map, string_bytes}
use Rattle.semantics_names.specs.Statement as spec
use Rattle.resolver.proofs.statement_names.names.are_distinct.Given as goal

abbrev pub invariant-loop-at : goal.invariant-loop-at
invariant-loop-at l =
    spec.are_distinct (map (λ n. string_bytes n) l.names) ≡ spec.are_distinct (map (λ n. string_bytes n) (drop l.at l.names))
