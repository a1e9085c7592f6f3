-- The types so far, before those of what is left, are those of all.
use Rattle.std.proofs.Common.{◌≡◌, ◌++◌, drop, map}
use Rattle.semantics_names.specs.Outcome.{also, each}
use Rattle.semantics_names.specs.Types.{call_type}
use Rattle.resolver_terms.specs.SelectView.{call_of}
use Rattle.resolver_types.proofs.term_types.windows.call_types.Given as goal

abbrev pub invariant-loop-call : goal.invariant-loop-call
invariant-loop-call l =
    each (call_type l.over.answers.now l.over.columns.now) (map call_of l.calls)
    ≡ also (λ rest. l.types.items ++ rest) (each (call_type l.over.answers.now l.over.columns.now) (map call_of (drop l.call-index l.calls)))
