use Rattle.index_choice.proofs.SearchLemmas.{path_gives_covered}
use Rattle.index_choice.proofs.laws.path_gives_covered.Goals as goal

pub returns : goal.returns
returns c = path_gives_covered
