use Rattle.schema.proofs.lemmas.indexes.KeyIndexLemmas.{KeyColumnsSoFar}
use Rattle.schema.proofs.indexes.key_indexes.key_columns.Given as goal

abbrev pub invariant-loop-name : goal.invariant-loop-name
invariant-loop-name l = KeyColumnsSoFar l.columns l.names l.name-index l.all.items
