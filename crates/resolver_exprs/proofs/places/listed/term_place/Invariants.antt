-- The first that is the same is none of those before this place.
use Rattle.std.proofs.Common.{map, drop}
use Rattle.semantics_names.specs.Same.{is_same_term}
use Rattle.expr.specs.View.{term}
use Rattle.resolver_exprs.proofs.lemmas.places.ListedLemmas.{IsBehind}
use Rattle.resolver_exprs.proofs.places.listed.term_place.Given as goal

abbrev pub invariant-loop-at : goal.invariant-loop-at
invariant-loop-at l = IsBehind is_same_term (term l.t) (map term l.terms) l.at (map term (drop l.at l.terms))
