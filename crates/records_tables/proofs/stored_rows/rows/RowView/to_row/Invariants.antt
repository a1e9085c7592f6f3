use Rattle.std.proofs.Common.{◌≡◌, take}
use Rattle.records_tables.proofs.stored_rows.rows.RowView.to_row.Given as goal

abbrev pub invariant-loop-i : goal.invariant-loop-i
invariant-loop-i l = l.row ≡ take l.i l.self
