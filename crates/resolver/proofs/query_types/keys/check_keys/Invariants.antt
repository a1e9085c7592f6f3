-- All have types where those have that are left.
use Rattle.std.proofs.Common.{◌≡◌, drop, map, option_map}
use Rattle.resolver_types.specs.body_types.RowView.{row_of}
use Rattle.semantics_names.specs.Outcome.{each}
use Rattle.resolver.specs.query_types.Keys.{key_over}
use Rattle.resolver_types.specs.term_types.Passed.{passed}
use Rattle.resolver.proofs.query_types.keys.check_keys.Given as goal
use Rattle.resolver_terms.specs.SelectView.{key_of}

abbrev pub invariant-loop-key : goal.invariant-loop-key
invariant-loop-key l =
    passed (each (λ k. key_over (option_map (λ r. row_of r.now) l.over) l.types k.by) (map key_of l.order))
    ≡ passed (each (λ k. key_over (option_map (λ r. row_of r.now) l.over) l.types k.by) (map key_of (drop l.key-index l.order)))
