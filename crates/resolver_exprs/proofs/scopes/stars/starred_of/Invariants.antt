-- The columns so far, before those of what is left, are those of all.
use Rattle.std.proofs.Common.{◌≡◌, ◌++◌, drop, map}
use Rattle.semantics_names.specs.Statement as spec
use Rattle.resolver_exprs.specs.scopes.ResultView.{result_of}
use Rattle.resolver_exprs.proofs.scopes.stars.starred_of.Given as goal

abbrev pub invariant-loop-at : goal.invariant-loop-at
invariant-loop-at l =
    map result_of l.results.items ++ spec.starred_of l.table l.at (drop l.at l.scope) ≡ spec.starred_of l.table 0 l.scope
