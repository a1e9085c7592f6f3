use Rattle.std.proofs.Common.{◌≡◌, map, take}
use Rattle.values.specs.Datum.{datum_of_ref}
use Rattle.values.specs.Row.{Row}
use Rattle.records_tables.specs.Reading.{IsReadingRow, table_read}
use Rattle.records_tables.specs.Tables.{IsAnyRecord}
use Rattle.semantics.specs.OneTable.{shown}
use Rattle.operators_runs.proofs.columns.shown_values.Given as goal

abbrev pub invariant-loop-column : goal.invariant-loop-column
invariant-loop-column l = record {
  table_is : table_read l.reader ≡ l.table;
  reads : (row : Row) → IsAnyRecord l.table l.fn.rowid l.payload row → IsReadingRow l.reader row;
  shows : (row : Row) → IsAnyRecord l.table l.fn.rowid l.payload row → map datum_of_ref l.values.items ≡ shown (take l.column-index l.columns) row;
}
