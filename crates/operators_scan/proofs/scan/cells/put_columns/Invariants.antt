use Rattle.std.proofs.Common.{◌≡◌, ◌≤◌, ◌+◌, ◌++◌, length, map, take}
use Rattle.values.specs.Datum.{datum_of}
use Rattle.values.specs.Row.{Row, Grows}
use Rattle.semantics.specs.OneTable.{shown}
use Rattle.records_tables.specs.Reading.{IsReadingRow, table_read}
use Rattle.operators_scan.proofs.scan.cells.put_columns.Given as goal

abbrev pub invariant-loop-column : goal.invariant-loop-column
invariant-loop-column l = record {
  table_is : table_read l.reader ≡ table_read l.fn.reader;
  reads : (whole : Row) → IsReadingRow l.fn.reader whole → IsReadingRow l.reader whole;
  shows : (whole : Row) → IsReadingRow l.fn.reader whole
      → take l.next (map datum_of l.row.items) ≡ take l.fn.at (map datum_of l.fn.row.items) ++ shown (take l.column-index l.columns) whole;
  front : Grows (take l.fn.at (map datum_of l.fn.row.items)) (take l.next (map datum_of l.row.items));
  at : l.next ≡ l.fn.at + l.column-index;
  long : l.next ≤ length l.row.items;
}
