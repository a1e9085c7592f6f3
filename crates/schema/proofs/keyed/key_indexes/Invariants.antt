use Rattle.schema.proofs.KeyedLemmas.{KeyIndexesSoFar}
use Rattle.schema.proofs.keyed.key_indexes.Given as goal

abbrev pub invariant-loop-index : goal.invariant-loop-index
invariant-loop-index l = KeyIndexesSoFar l.table l.automatic l.index-index l.all.items
