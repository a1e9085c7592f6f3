use Rattle.schema.proofs.lemmas.indexes.KeyIndexLemmas.{one_key_index}
use Rattle.schema.proofs.indexes.laws.one_key_index.Goals as goal

pub returns : goal.returns
returns c table automatic first second distinct x y = one_key_index table automatic first second distinct x y
