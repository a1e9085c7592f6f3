use Rattle.std.proofs.Common.{◌≡◌, length}
use Rattle.values.specs.Row.{Row}
use Rattle.records_tables.specs.stored_rows.Reading.{IsReading}
use Rattle.integrity_indexes.proofs.lemmas.row_batches.CodeLemmas.{AreWritten}
use Rattle.integrity_indexes.proofs.row_batches.wanted.push_places.Given as goal

abbrev pub invariant-loop-i : goal.invariant-loop-i
invariant-loop-i l = record {
  table : l.columns ≡ length l.reader.table.columns;
  reads : (row : Row) → IsReading l.fn.reader row → IsReading l.reader row;
  written : (row : Row) → IsReading l.fn.reader row → AreWritten row l.places l.i l.fn.code.items l.code.items;
}
