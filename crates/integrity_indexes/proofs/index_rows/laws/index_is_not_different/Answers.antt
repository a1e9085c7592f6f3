use Rattle.integrity_indexes.proofs.lemmas.index_rows.CompareLemmas.{not_different}
use Rattle.integrity_indexes.proofs.index_rows.laws.index_is_not_different.Goals as goal

pub returns : goal.returns
returns c = record { same = λ pages table columns root. not_different pages table columns root }
