use Rattle.schema.proofs.lemmas.indexes.IndexLemmas.{IndexedSoFar}
use Rattle.schema.proofs.indexes.made.all_indexed.Given as goal

abbrev pub invariant-loop-wanted : goal.invariant-loop-wanted
invariant-loop-wanted l = IndexedSoFar l.columns l.named l.wanted-index l.all.items
