use Rattle.schema_keys.proofs.OneLemmas.{one_table}
use Rattle.schema_keys.proofs.laws.one_table.Goals as goal

pub returns : goal.returns
returns c pages row first second x y = one_table pages row first second x y
