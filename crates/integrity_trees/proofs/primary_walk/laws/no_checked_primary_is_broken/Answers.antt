use Rattle.integrity_trees.proofs.lemmas.primary_walk.UnbrokenLemmas.{unbroken}
use Rattle.integrity_trees.proofs.primary_walk.laws.no_checked_primary_is_broken.Goals as goal

pub returns : goal.returns
returns c = record { unbroken = unbroken }
