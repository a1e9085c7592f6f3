use Rattle.integrity_trees.proofs.lemmas.index_walk.CheckedLemmas.{unbroken_index}
use Rattle.integrity_trees.proofs.index_walk.laws.no_checked_index_is_broken.Goals as goal

pub returns : goal.returns
returns c = record { unbroken = λ pages widths descends root counts. unbroken_index pages widths descends root counts }
