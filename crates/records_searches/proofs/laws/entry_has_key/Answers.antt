use Rattle.records_searches.proofs.WorkLemmas.{has_key}
use Rattle.records_searches.proofs.laws.entry_has_key.Goals as goal

pub returns : goal.returns
returns c = has_key
