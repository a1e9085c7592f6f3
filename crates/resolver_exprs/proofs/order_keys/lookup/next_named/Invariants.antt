-- No result column before this one is named so.
use Rattle.std.proofs.Common.{◌≡◌, drop, map, string_bytes}
use Rattle.semantics_names.specs.Statement as spec
use Rattle.resolver_exprs.proofs.order_keys.lookup.next_named.Given as goal

abbrev pub invariant-loop-at : goal.invariant-loop-at
invariant-loop-at l =
    spec.named_at l.name l.from (map (λ n. string_bytes n) (drop l.from l.names))
    ≡ spec.named_at l.name l.at (map (λ n. string_bytes n) (drop l.at l.names))
