use Rattle.index_choice.proofs.SearchLemmas.{path_is_filter}
use Rattle.index_choice.proofs.laws.path_is_filter.Goals as goal

pub returns : goal.returns
returns c = path_is_filter
