use Rattle.schema_keys.proofs.ServedLemmas.{named_in}
use Rattle.schema_keys.proofs.served.is_column.Goals as goal

pub returns : goal.returns
returns c = named_in c.args.columns.now c.args.name.now c.is_named.result c.is_named.ensures
