-- The columns so far, before those of what is left, are those of all.
use Rattle.std.proofs.Common.{◌≡◌, ◌++◌, Ok, drop, map}
use Rattle.semantics_names.specs.Outcome.{also, each}
use Rattle.semantics_names.specs.Places.{key_column}
use Rattle.semantics_names.specs.Statement as spec
use Rattle.expr.specs.View.{term}
use Rattle.resolver_exprs.specs.scopes.ResultView.{result_of}
use Rattle.resolver_selects.proofs.result_columns.inputs.keys.Given as goal

abbrev pub invariant-loop-column : goal.invariant-loop-column
invariant-loop-column l =
    let one = λ (r : spec.ResultColumn). also (spec.result r.name) (spec.or_bare (key_column (map term l.by) (Ok r.term))) in
    each one (map result_of l.columns)
    ≡ also (λ rest. map result_of l.keys.items ++ rest) (each one (map result_of (drop l.column-index l.columns)))
