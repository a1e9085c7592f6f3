use Rattle.schema.proofs.lemmas.indexes.IndexLemmas.{one_index}
use Rattle.schema.proofs.indexes.laws.one_index.Goals as goal

pub returns : goal.returns
returns c tree table first second distinct p q root = one_index tree table first second distinct p q root
