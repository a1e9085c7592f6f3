use Rattle.std.proofs.Common.{List, ◌++◌}
use Rattle.values.specs.Datum.{Datum}
use Rattle.records.specs.Fields.{AreUnread}
use Rattle.records.specs.Record.{IsRecord}
use Rattle.integrity_trees.proofs.entry_rows.rows.copied_row.Given as goal

abbrev pub invariant-loop-passed : goal.invariant-loop-passed
invariant-loop-passed l = (rest : List Datum) → AreUnread l.fields rest → IsRecord l.bytes (l.row ++ rest)
