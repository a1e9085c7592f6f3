use Rattle.integrity.proofs.OneEntryLemmas.{one_entry_rows}
use Rattle.integrity.proofs.searched.searched_rows_are_one.Goals as goal

pub returns : goal.returns
returns c = one_entry_rows
