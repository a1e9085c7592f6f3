use Rattle.std.proofs.Common.{map}
use Rattle.values.specs.Datum.{datum_of}
use Rattle.operators_runs.proofs.KeptLemmas.{value_more}
use Rattle.operators_runs.proofs.kept.show_columns.Goals as goal

pub loop-column-preserved : goal.loop-column-preserved
loop-column-preserved c =
    rw c.in_ok-push.ensures.items
    (value_more (map datum_of c.args.row.now) c.args.columns.now c.loop-column.column-index c.loop-column.values.items c.value_shown.result
    c.loop-column-test.true c.value_shown.ensures c.loop-column.invariant)
