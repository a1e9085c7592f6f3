use Rattle.integrity_trees.proofs.lemmas.wanted_entries.NeighbourLemmas.{count_of, unique_of}
use Rattle.integrity_trees.proofs.wanted_entries.laws.neighbours.Goals as goal

pub returns-clause-count : goal.returns-clause-count
returns-clause-count c = λ width count entries together runs. count_of width entries count together runs

pub returns-clause-apart : goal.returns-clause-apart
returns-clause-apart c = λ width entries together parted two. unique_of width entries together parted two
