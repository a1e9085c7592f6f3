-- No source before this one is called so.
use Rattle.std.proofs.Common.{◌≡◌, drop, map, option_map, string_bytes}
use Rattle.std.specs.List.{list_any}
use Rattle.semantics_names.specs.Sources.{is_same_source}
use Rattle.resolver_sources.proofs.source_names.joins.is_among.Given as goal

abbrev pub invariant-loop-other : goal.invariant-loop-other
invariant-loop-other l =
    let same = is_same_source (option_map (λ n. string_bytes n) l.name) in
    list_any same (map (option_map (λ n. string_bytes n)) l.names)
    ≡ list_any same (map (option_map (λ n. string_bytes n)) (drop l.other-index l.names))
