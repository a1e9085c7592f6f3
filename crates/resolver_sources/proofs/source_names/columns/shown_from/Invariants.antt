-- The columns so far, before those of what is left, are those of all.
use Rattle.std.proofs.Common.{◌≡◌, ◌+◌, ◌++◌, drop, map, option_map, string_bytes}
use Rattle.semantics_names.specs.Sources as spec
use Rattle.resolver_sources.proofs.source_names.columns.shown_from.Given as goal

abbrev pub invariant-loop-index : goal.invariant-loop-index
invariant-loop-index l =
    let source = option_map (λ n. string_bytes n) l.source in
    l.columns.items ++ spec.shown_from source (l.first + l.index) (map (λ n. string_bytes n) (drop l.index l.names))
    ≡ spec.shown_from source l.first (map (λ n. string_bytes n) l.names)
