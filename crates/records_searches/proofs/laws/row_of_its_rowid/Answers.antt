use Rattle.records_searches.proofs.StoredLemmas.{row_of_its_rowid}
use Rattle.records_searches.proofs.laws.row_of_its_rowid.Goals as goal

pub returns : goal.returns
returns c = row_of_its_rowid
