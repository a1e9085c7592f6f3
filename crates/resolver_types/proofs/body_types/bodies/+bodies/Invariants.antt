use Rattle.std.proofs.Common.{◌≡◌, ◌++◌, [], Ok, drop, map}
use Rattle.resolver_bodies.specs.BodyView.{inner_of, joined_of}
use Rattle.resolver_types.specs.body_types.Rows as rows
use Rattle.semantics_names.specs.Outcome.{also, each}
use Rattle.semantics_names.specs.Types as spec
use Rattle.resolver_types.proofs.body_types.bodies.+bodies.Given as goal

-- The columns so far, before the sources that are left, come to those of all.
abbrev pub invariant-all_joined-loop-joined : goal.invariant-all_joined-loop-joined
invariant-all_joined-loop-joined l =
    rows.all_joined (map (λ t. t.items) l.tables) l.answers (Ok []) (map joined_of l.sources)
    ≡ rows.all_joined (map (λ t. t.items) l.tables) l.answers (Ok l.columns.items) (map joined_of (drop l.joined-index l.sources))

-- The types so far, before those of what is left, are those of all.
abbrev pub invariant-answer_types-loop-query : goal.invariant-answer_types-loop-query
invariant-answer_types-loop-query l =
    each (spec.inner_type (map (λ t. t.items) l.tables)) (map inner_of l.queries)
    ≡ also (λ rest. l.types.items ++ rest) (each (spec.inner_type (map (λ t. t.items) l.tables)) (map inner_of (drop l.query-index l.queries)))
