use Rattle.records_tables.proofs.stored_rows.row_reader.RowReader.new.Goals as goal

pub returns-in_err-fields-clause-none : goal.returns-in_err-fields-clause-none
returns-in_err-fields-clause-none c = rw c.from_residual.ensures (λ row is. c.in_err-fields.ensures.none is.values is.record_is)
