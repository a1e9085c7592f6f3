use Rattle.integrity_trees.proofs.lemmas.wanted_entries.BagLemmas.{placed_more}
use Rattle.integrity_trees.proofs.wanted_entries.laws.next_batch.Goals as goal

pub returns-clause-placed : goal.returns-clause-placed
returns-clause-placed c = λ entries done batch middle low high before here x is within. placed_more entries done batch middle low high before here x is within
