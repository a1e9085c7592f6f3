use Rattle.records_tables.proofs.TableLemmas.{stored_once, stored_rows, stored_shape}
use Rattle.records_tables.proofs.laws.stored_table_has_rows.Goals as goal

pub returns : goal.returns
returns c = record { shape = stored_shape; rows = stored_rows; same = stored_once }
