use Rattle.integrity_trees.specs.wanted_entries.Wanted.{entry_of}
use Rattle.integrity_trees.proofs.lemmas.wanted_entries.KeptLemmas.{once_kept}
use Rattle.integrity_trees.proofs.wanted_entries.laws.kept_entries.Goals as goal

pub returns : goal.returns
returns c = record { once = λ index keeps rows once. once_kept (entry_of index) (λ keyed. keeps keyed.row) rows once }
