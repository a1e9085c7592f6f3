-- The sources and inner queries before this one are settled, and those from it on are as they were.
use Rattle.std.proofs.Common.{◌≡◌, ◌<◌, ℕ, get_or}
use Rattle.resolver_bodies.specs.BodyView.{inner_of, joined_of}
use Rattle.resolver_bodies.specs.declared.bodies.InnerQuery.{InnerQuery}
use Rattle.resolver_bodies.specs.declared.bodies.Joined.{Joined}
use Rattle.resolver_copies.specs.schema_bodies.SettledView.{with_schema_joined}
use Rattle.semantics_rewrites.specs.schema_sources.Settled.{with_schema_inner}
use Rattle.resolver_copies.proofs.schema_bodies.settling.+settling.Given as goal

abbrev pub invariant-settle_sources-loop-at : goal.invariant-settle_sources-loop-at
invariant-settle_sources-loop-at l = goal.unvisited-settle_sources-loop-at l
    × ((k : ℕ) (d : Joined) → k < l.at → joined_of (get_or l.sources.items k d) ≡ with_schema_joined l.place (joined_of (get_or l.initial.sources.items k d)))

abbrev pub invariant-settle_inner-loop-at : goal.invariant-settle_inner-loop-at
invariant-settle_inner-loop-at l = goal.unvisited-settle_inner-loop-at l
    × ((k : ℕ) (d : InnerQuery) → k < l.at → inner_of (get_or l.queries.items k d) ≡ with_schema_inner l.place (inner_of (get_or l.initial.queries.items k d)))
