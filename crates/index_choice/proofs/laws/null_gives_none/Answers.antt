use Rattle.index_choice.proofs.SearchLemmas.{null_gives_none}
use Rattle.index_choice.proofs.laws.null_gives_none.Goals as goal

pub returns : goal.returns
returns c = null_gives_none
