-- The types so far, before those of what is left, are those of all.
use Rattle.std.proofs.Common.{◌≡◌, ◌++◌, drop, map}
use Rattle.semantics_names.specs.Outcome.{also, each}
use Rattle.semantics_names.specs.Types.{aggregate_type}
use Rattle.resolver_terms.specs.SelectView.{aggregate_of}
use Rattle.resolver_types.proofs.term_types.functions.aggregate_types.Given as goal

abbrev pub invariant-loop-a : goal.invariant-loop-a
invariant-loop-a l =
    each (aggregate_type l.over.answers.now l.over.columns.now) (map aggregate_of l.aggregates)
    ≡ also (λ rest. l.types.items ++ rest)
    (each (aggregate_type l.over.answers.now l.over.columns.now) (map aggregate_of (drop l.a-index l.aggregates)))
