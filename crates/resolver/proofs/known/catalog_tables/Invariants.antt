-- The tables before this one are known.
use Rattle.std.proofs.Common.{map}
use Rattle.resolver_sources.specs.source_names.GivenView.{known_of}
use Rattle.resolver.proofs.KnownLemmas.{IsBefore}
use Rattle.resolver.proofs.known.catalog_tables.Given as goal

abbrev pub invariant-loop-at : goal.invariant-loop-at
invariant-loop-at l = IsBefore l.tables (map known_of l.known.items) l.at
