-- The columns so far, before those of what is left, are those of all.
use Rattle.std.proofs.Common.{◌≡◌, ◌++◌, drop, map}
use Rattle.semantics_names.specs.Statement as spec
use Rattle.resolver_exprs.specs.scopes.ResultView.{result_of}
use Rattle.resolver_exprs.proofs.scopes.stars.starred.Given as goal

abbrev pub invariant-loop-shown : goal.invariant-loop-shown
invariant-loop-shown l = map result_of l.results.items ++ spec.starred (drop l.shown-index l.scope) ≡ spec.starred l.scope
