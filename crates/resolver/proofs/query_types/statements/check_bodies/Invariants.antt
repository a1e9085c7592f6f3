-- All have types where those have that are left.
use Rattle.std.proofs.Common.{◌≡◌, drop, map}
use Rattle.resolver_bodies.specs.BodyView.{body_of}
use Rattle.semantics_names.specs.Outcome.{each}
use Rattle.semantics_names.specs.Types.{body_types}
use Rattle.resolver_types.specs.term_types.Passed.{passed}
use Rattle.resolver.proofs.query_types.statements.check_bodies.Given as goal

abbrev pub invariant-loop-body : goal.invariant-loop-body
invariant-loop-body l =
    passed (each (body_types (map (λ t. t.items) l.tables)) (map body_of l.beside))
    ≡ passed (each (body_types (map (λ t. t.items) l.tables)) (map body_of (drop l.body-index l.beside)))
