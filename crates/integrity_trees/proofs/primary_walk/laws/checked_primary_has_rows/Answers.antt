use Rattle.integrity_trees.proofs.lemmas.primary_walk.HeldLemmas.{rows_held}
use Rattle.integrity_trees.proofs.primary_walk.laws.checked_primary_has_rows.Goals as goal

pub returns : goal.returns
returns c = record { rows = λ pages table counts within checked. rows_held pages table within counts checked }
