use Rattle.integrity_trees.proofs.lemmas.entry_prefixes.FieldLemmas.{AgreeSoFar}
use Rattle.integrity_trees.proofs.lemmas.index_walk.ColumnLemmas.{ArePassed}
use Rattle.integrity_trees.proofs.index_walk.last.compare_keys.Given as goal

abbrev pub invariant-loop-at : goal.invariant-loop-at
invariant-loop-at l = record {
  passed : ArePassed l.descends l.columns l.at l.one l.other l.first l.second;
  agreed : AgreeSoFar l.one l.other l.columns l.at l.first l.second;
}
