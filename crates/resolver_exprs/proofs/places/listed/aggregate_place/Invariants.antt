-- The first that is the same is none of those before this place.
use Rattle.std.proofs.Common.{map, drop}
use Rattle.semantics_names.specs.Same.{is_same_aggregate}
use Rattle.resolver_terms.specs.SelectView.{aggregate_of}
use Rattle.resolver_exprs.proofs.lemmas.places.ListedLemmas.{IsBehind}
use Rattle.resolver_exprs.proofs.places.listed.aggregate_place.Given as goal

abbrev pub invariant-loop-at : goal.invariant-loop-at
invariant-loop-at l =
    IsBehind is_same_aggregate (aggregate_of l.a) (map aggregate_of l.aggregates) l.at (map aggregate_of (drop l.at l.aggregates))
