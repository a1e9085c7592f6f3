-- The types so far, before those of what is left, are those of all.
use Rattle.std.proofs.Common.{◌≡◌, ◌++◌, drop, map}
use Rattle.semantics_names.specs.Outcome.{also, each}
use Rattle.semantics_names.specs.Types.{term_type}
use Rattle.expr.specs.View.{term}
use Rattle.resolver_types.proofs.term_types.terms.term_types.Given as goal

abbrev pub invariant-loop-t : goal.invariant-loop-t
invariant-loop-t l =
    each (term_type l.over.answers.now l.over.columns.now) (map term l.terms)
    ≡ also (λ rest. l.types.items ++ rest) (each (term_type l.over.answers.now l.over.columns.now) (map term (drop l.t-index l.terms)))
