use Rattle.integrity_trees.proofs.lemmas.index_walk.FieldLemmas.{FrontRead}
use Rattle.integrity_trees.proofs.index_walk.entries.is_widest.Given as goal

abbrev pub invariant-loop-passed : goal.invariant-loop-passed
invariant-loop-passed l = FrontRead l.bytes l.fields l._passed
