use Rattle.integrity_indexes.proofs.lemmas.index_rows.IndexedLemmas.{holds_indexed}
use Rattle.integrity_indexes.proofs.index_rows.laws.checked_index_has_rows.Goals as goal

pub returns : goal.returns
returns c = record { rows = λ pages table index condition descends root counts number checked is. holds_indexed pages table index condition descends root counts number checked is }
