use Rattle.records_searches.proofs.WorkLemmas.{few_asked}
use Rattle.records_searches.proofs.laws.search_asks_for_few.Goals as goal

pub returns : goal.returns
returns c = few_asked
