use Rattle.integrity_trees.proofs.lemmas.tree_walk.UsedLemmas.{tree_gone, tree_twice}
use Rattle.integrity_trees.proofs.tree_walk.laws.marks_of_tree.Goals as goal

pub returns-clause-marks : goal.returns-clause-marks
returns-clause-marks c = λ pages tree old new levels number. tree_gone pages tree old number levels new

pub returns-clause-twice : goal.returns-clause-twice
returns-clause-twice c = λ pages tree old fault number. tree_twice pages tree old number fault
