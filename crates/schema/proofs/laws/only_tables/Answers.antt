use Rattle.schema.proofs.AloneLemmas.{only_tables}
use Rattle.schema.proofs.laws.only_tables.Goals as goal

pub returns : goal.returns
returns c = only_tables
