-- The queries so far, before those that are left, are all behind what was found before.
use Rattle.std.proofs.Common.{◌≡◌, ◌++◌, drop, map}
use Rattle.resolver_bodies.specs.BodyView.{inner_of}
use Rattle.resolver_copies.specs.materialized_bodies.FlatView.{queries_found}
use Rattle.resolver_copies.proofs.materialized_bodies.parts.add_inner.Given as goal

abbrev pub invariant-loop-query : goal.invariant-loop-query
invariant-loop-query l = queries_found l.found ++ map inner_of (drop l.query-index l.inner) ≡ queries_found l.initial.found ++ map inner_of l.inner
