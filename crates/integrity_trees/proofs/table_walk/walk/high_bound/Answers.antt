use Rattle.integrity_trees.proofs.lemmas.table_walk.BoundLemmas.{divider_is}
use Rattle.integrity_trees.proofs.table_walk.walk.high_bound.Goals as goal

pub returns-then-i-from-clause-inner : goal.returns-then-i-from-clause-inner
returns-then-i-from-clause-inner c = λ most cells within.
    divider_is _ most _ cells c.args.i c.divider.result within c.divider.ensures.found c.divider.ensures.none
