use Rattle.schema_keys.proofs.lemmas.table_keys.AutomaticLemmas.{one_list}
use Rattle.schema_keys.proofs.table_keys.laws.one_list.Goals as goal

pub returns : goal.returns
returns c tree number keys first second x y = one_list tree number keys first second x y
