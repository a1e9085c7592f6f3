use Rattle.records_searches.proofs.WorkLemmas.{has_rowid}
use Rattle.records_searches.proofs.laws.entry_has_rowid.Goals as goal

pub returns : goal.returns
returns c = has_rowid
