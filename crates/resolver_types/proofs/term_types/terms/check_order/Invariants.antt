-- All have types where those have that are left.
use Rattle.std.proofs.Common.{◌≡◌, drop, map}
use Rattle.semantics_names.specs.Outcome.{each}
use Rattle.semantics_names.specs.Types.{term_type}
use Rattle.resolver_terms.specs.SelectView.{sort_of}
use Rattle.resolver_types.specs.term_types.Passed.{passed}
use Rattle.resolver_types.proofs.term_types.terms.check_order.Given as goal

abbrev pub invariant-loop-sort : goal.invariant-loop-sort
invariant-loop-sort l =
    passed (each (λ s. term_type l.over.answers.now l.over.columns.now s.term) (map sort_of l.order))
    ≡ passed (each (λ s. term_type l.over.answers.now l.over.columns.now s.term) (map sort_of (drop l.sort-index l.order)))
