use Rattle.std.proofs.Common.{◌≡◌, map, take}
use Rattle.values.specs.Datum.{datum_of, datum_of_ref}
use Rattle.semantics.specs.OneTable.{shown}
use Rattle.operators_runs.proofs.kept.show_columns.Given as goal

abbrev pub invariant-loop-column : goal.invariant-loop-column
invariant-loop-column l = map datum_of_ref l.values.items ≡ shown (take l.column-index l.columns) (map datum_of l.row)
