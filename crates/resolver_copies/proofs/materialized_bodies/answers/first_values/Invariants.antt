-- The values so far are those of the rows before this one.
use Rattle.std.proofs.Common.{◌≡◌, map}
use Rattle.values.specs.Datum.{datum_of}
use Rattle.semantics.specs.Sequence.{value_at}
use Rattle.resolver_copies.specs.materialized_bodies.FlatView.{lists_of}
use Rattle.resolver_copies.proofs.materialized_bodies.answers.first_values.Given as goal

abbrev pub invariant-loop-row : goal.invariant-loop-row
invariant-loop-row l = map datum_of l.values.items ≡ map (λ row. value_at row 0) (lists_of l.yielded)
