use Rattle.integrity_trees.proofs.lemmas.index_walk.ValueLemmas.{has_values}
use Rattle.integrity_trees.proofs.index_walk.laws.checked_index_has_values.Goals as goal

pub returns : goal.returns
returns c = record { values = λ pages widths descends root counts. has_values pages widths descends root counts }
