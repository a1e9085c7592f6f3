-- The types so far, before those of what is left of both, are those of all.
use Rattle.std.proofs.Common.{◌≡◌, ◌++◌, drop}
use Rattle.semantics_names.specs.Outcome.{also}
use Rattle.semantics_names.specs.Types as spec
use Rattle.resolver_types.proofs.body_types.columns.one_types.Given as goal

abbrev pub invariant-loop-x : goal.invariant-loop-x
invariant-loop-x l = spec.one_types l.first l.second ≡ also (λ rest. l.types.items ++ rest) (spec.one_types (drop l.x-index l.first) l.rest)
