-- The queries so far, before those of what is left, are those of all.
use Rattle.std.proofs.Common.{◌≡◌, ◌++◌, drop, map}
use Rattle.resolver_sources.specs.inner_names.InnerNames.{inner_by}
use Rattle.resolver_sources.specs.inner_names.InnerView.{asked_of, inner_data}
use Rattle.semantics_names.specs.Outcome.{also, each}
use Rattle.resolver_sources.proofs.inner_names.all.inner_queries.Given as goal

abbrev pub invariant-loop-one : goal.invariant-loop-one
invariant-loop-one g l =
    each (inner_by (g.Q.Queries.meaning l.queries)) (map asked_of l.asked)
    ≡ also (λ rest. map inner_data l.found.items ++ rest) (each (inner_by (g.Q.Queries.meaning l.queries)) (map asked_of (drop l.one-index l.asked)))
