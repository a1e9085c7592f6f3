-- The terms so far, before those of what is left, are the terms of all.
use Rattle.schema.proofs.lemmas.indexes.ConditionLemmas.{AreSoFar}
use Rattle.schema.proofs.indexes.conditions.+part.Given as goal

abbrev pub invariant-parts-loop-tree : goal.invariant-parts-loop-tree
invariant-parts-loop-tree l = AreSoFar l.table l.trees l.tree-index l.terms.items
