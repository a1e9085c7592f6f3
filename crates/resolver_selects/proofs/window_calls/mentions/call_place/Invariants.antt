-- The first that is the same is none of those before this place.
use Rattle.std.proofs.Common.{drop, map}
use Rattle.semantics_names.specs.Same.{is_same_call}
use Rattle.resolver_exprs.proofs.lemmas.places.ListedLemmas.{IsBehind}
use Rattle.resolver_terms.specs.SelectView.{call_of}
use Rattle.resolver_selects.proofs.window_calls.mentions.call_place.Given as goal

abbrev pub invariant-loop-at : goal.invariant-loop-at
invariant-loop-at l = IsBehind is_same_call (call_of l.call) (map call_of l.calls) l.at (map call_of (drop l.at l.calls))
