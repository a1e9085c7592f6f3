use Rattle.integrity_trees.proofs.lemmas.entry_prefixes.FieldLemmas.{GivenSoFar}
use Rattle.integrity_trees.proofs.entry_prefixes.agreement.is_full.Given as goal

abbrev pub invariant-loop-passed : goal.invariant-loop-passed
invariant-loop-passed l = GivenSoFar l.bytes l.width l._passed l.fields
