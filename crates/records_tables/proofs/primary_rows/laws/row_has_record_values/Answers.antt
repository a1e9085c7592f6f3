use Rattle.records_tables.proofs.lemmas.primary_rows.KeyLemmas.{key_first, row_has}
use Rattle.records_tables.proofs.primary_rows.laws.row_has_record_values.Goals as goal

pub returns : goal.returns
returns c = record { values = row_has; key = key_first }
