use Rattle.records_tables.proofs.lemmas.stored_rows.ReadingLemmas.{FirstFit}
use Rattle.records_tables.proofs.stored_rows.rows.is_row.Given as goal

abbrev pub invariant-loop-i : goal.invariant-loop-i
invariant-loop-i l = FirstFit l.table l.rowid l.payload l.fields l.i
