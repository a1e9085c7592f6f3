use Rattle.integrity_trees.proofs.lemmas.entry_prefixes.FieldLemmas.{AgreeSoFar}
use Rattle.integrity_trees.proofs.entry_prefixes.agreement.shared_columns.Given as goal

abbrev pub invariant-loop-i : goal.invariant-loop-i
invariant-loop-i l = AgreeSoFar l.one l.other l.width l.i l.first l.second
