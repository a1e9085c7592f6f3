-- What is left hides the rest.
use Rattle.std.proofs.Common.{◌≡◌, drop, map, string_bytes}
use Rattle.resolver_exprs.specs.scopes.Using.{all_hidden}
use Rattle.resolver_sources.proofs.source_names.using.hide.Given as goal

abbrev pub invariant-loop-name : goal.invariant-loop-name
invariant-loop-name l =
    all_hidden (map (λ n. string_bytes n) l.names) l.initial.right ≡ all_hidden (map (λ n. string_bytes n) (drop l.name-index l.names)) l.right
