-- The copies so far, before those of what is left from this place on, are those of all; and there are places for what is left.
use Rattle.std.proofs.Common.{◌≡◌, ◌<◌, ◌+◌, ◌^◌, ◌++◌, drop, length, map}
use Rattle.resolver_bodies.specs.BodyView.{joined_of}
use Rattle.expr.specs.Filled.{filled}
use Rattle.resolver_copies.specs.materialized_bodies.FlatView.{all_flat, kept_among, lists_of}
use Rattle.resolver_copies.proofs.materialized_bodies.copies.materialized_sources.Given as goal

abbrev pub invariant-loop-joined : goal.invariant-loop-joined
invariant-loop-joined l =
    (map joined_of l.copies.items ++ all_flat (filled (lists_of l.answers)) l.place (map joined_of (drop l.joined-index l.sources))
    ≡ all_flat (filled (lists_of l.answers)) l.first (map joined_of l.sources))
    × (l.place + length (kept_among (map joined_of (drop l.joined-index l.sources))) < 2 ^ 64)
