-- The equalities so far, before those of what is left, are those of all.
use Rattle.std.proofs.Common.{◌≡◌, ◌++◌, drop, map, string_bytes}
use Rattle.semantics_names.specs.Outcome.{also}
use Rattle.expr.specs.View.{term}
use Rattle.resolver_sources.specs.source_names.Matched.{matched}
use Rattle.resolver_sources.proofs.source_names.using.equalities.Given as goal

abbrev pub invariant-loop-name : goal.invariant-loop-name
invariant-loop-name l =
    matched l.theirs l.initial.left (map (λ n. string_bytes n) l.names)
    ≡ also (λ rest. (rest.0, map term l.equalities.items ++ rest.1))
    (matched l.theirs l.left (map (λ n. string_bytes n) (drop l.name-index l.names)))
