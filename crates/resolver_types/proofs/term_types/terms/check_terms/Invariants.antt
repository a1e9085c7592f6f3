-- All have types where those have that are left.
use Rattle.std.proofs.Common.{◌≡◌, drop, map}
use Rattle.semantics_names.specs.Outcome.{each}
use Rattle.semantics_names.specs.Types.{term_type}
use Rattle.expr.specs.View.{term}
use Rattle.resolver_types.specs.term_types.Passed.{passed}
use Rattle.resolver_types.proofs.term_types.terms.check_terms.Given as goal

abbrev pub invariant-loop-t : goal.invariant-loop-t
invariant-loop-t l =
    passed (each (term_type l.over.answers.now l.over.columns.now) (map term l.terms))
    ≡ passed (each (term_type l.over.answers.now l.over.columns.now) (map term (drop l.t-index l.terms)))
