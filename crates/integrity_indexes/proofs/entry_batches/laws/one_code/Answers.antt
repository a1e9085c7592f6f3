use Rattle.integrity_indexes.proofs.lemmas.entry_batches.CodeLemmas.{same_rows}
use Rattle.integrity_indexes.proofs.entry_batches.laws.one_code.Goals as goal

pub returns : goal.returns
returns c = same_rows
