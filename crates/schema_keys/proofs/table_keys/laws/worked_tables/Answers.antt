use Rattle.schema_keys.proofs.lemmas.table_keys.WorkedLemmas.{key_takes_one, rowid_takes_none}
use Rattle.schema_keys.proofs.table_keys.laws.worked_tables.Goals as goal

pub returns-clause-rowids : goal.returns-clause-rowids
returns-clause-rowids c = rowid_takes_none

pub returns-clause-rowless : goal.returns-clause-rowless
returns-clause-rowless c = key_takes_one
