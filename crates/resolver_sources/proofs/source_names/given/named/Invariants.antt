-- Nothing before this one is named so.
use Rattle.std.proofs.Common.{◌≡◌, drop, map}
use Rattle.semantics_names.specs.Sources.{known_as}
use Rattle.resolver_sources.specs.source_names.GivenView.{known_of}
use Rattle.resolver_sources.proofs.source_names.given.named.Given as goal

abbrev pub invariant-loop-one : goal.invariant-loop-one
invariant-loop-one l = known_as (map known_of l.known) l.name ≡ known_as (map known_of (drop l.one-index l.known)) l.name
