-- The sources so far, before those of what is left, are those of all behind what was found before.
use Rattle.std.proofs.Common.{◌≡◌, ◌++◌, drop, map}
use Rattle.resolver_bodies.specs.BodyView.{joined_of}
use Rattle.resolver_copies.specs.materialized_bodies.FlatView.{kept_among, sources_in}
use Rattle.resolver_copies.proofs.materialized_bodies.parts.add_sources.Given as goal

abbrev pub invariant-loop-joined : goal.invariant-loop-joined
invariant-loop-joined l =
    sources_in l.found ++ kept_among (map joined_of (drop l.joined-index l.sources)) ≡ sources_in l.initial.found ++ kept_among (map joined_of l.sources)
