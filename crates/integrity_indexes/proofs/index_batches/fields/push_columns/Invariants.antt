use Rattle.values.specs.Row.{Row}
use Rattle.records.specs.Record.{IsRecord}
use Rattle.integrity_indexes.proofs.lemmas.index_batches.ColumnLemmas.{ArePushed}
use Rattle.integrity_indexes.proofs.index_batches.fields.push_columns.Given as goal

abbrev pub invariant-loop-column : goal.invariant-loop-column
invariant-loop-column l = (values : Row) → IsRecord l.bytes values → ArePushed values l._column l.fields l.fn.code.items l.code.items
