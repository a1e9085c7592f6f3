use Rattle.integrity_trees.proofs.lemmas.wanted_entries.OrderLemmas.{once, together}
use Rattle.integrity_trees.proofs.wanted_entries.laws.entries_in_order.Goals as goal

pub returns-clause-once : goal.returns-clause-once
returns-clause-once c = once

pub returns-clause-together : goal.returns-clause-together
returns-clause-together c = λ descends width entries stand. together descends entries stand width
