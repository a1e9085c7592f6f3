-- The first that is the same is none of those before this place.
use Rattle.std.proofs.Common.{map, drop}
use Rattle.resolver_bodies.specs.BodyView.{inner_of}
use Rattle.semantics_names.specs.Same.{is_same_inner}
use Rattle.resolver_exprs.proofs.lemmas.places.ListedLemmas.{IsBehind}
use Rattle.resolver_sources.proofs.inner_names.answers.query_place.Given as goal

abbrev pub invariant-loop-at : goal.invariant-loop-at
invariant-loop-at l = IsBehind is_same_inner (inner_of l.query) (map inner_of l.queries) l.at (map inner_of (drop l.at l.queries))
