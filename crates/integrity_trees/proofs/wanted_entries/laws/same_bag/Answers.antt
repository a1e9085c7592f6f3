use Rattle.integrity_trees.proofs.lemmas.wanted_entries.BagLemmas.{same}
use Rattle.integrity_trees.proofs.wanted_entries.laws.same_bag.Goals as goal

pub returns-clause-same : goal.returns-clause-same
returns-clause-same c = λ entries wanted once all few. same entries wanted once all few

pub returns-clause-rows : goal.returns-clause-rows
returns-clause-rows c = λ entries wanted once all few. same entries wanted once all few
