-- The copies so far are those before this one.
use Rattle.std.proofs.Common.{◌≡◌, map, take}
use Rattle.resolver_bodies.specs.BodyView.{inner_of, joined_of}
use Rattle.resolver_bodies.proofs.copies.+copies.Given as goal

abbrev pub invariant-copy_sources-loop-joined : goal.invariant-copy_sources-loop-joined
invariant-copy_sources-loop-joined l = map joined_of l.copies.items ≡ map joined_of (take l.joined-index l.sources)

abbrev pub invariant-copy_inner-loop-query : goal.invariant-copy_inner-loop-query
invariant-copy_inner-loop-query l = map inner_of l.copies.items ≡ map inner_of (take l.query-index l.queries)
