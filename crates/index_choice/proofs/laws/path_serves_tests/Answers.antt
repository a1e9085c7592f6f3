use Rattle.index_choice.proofs.SearchLemmas.{path_serves_tests}
use Rattle.index_choice.proofs.laws.path_serves_tests.Goals as goal

pub returns : goal.returns
returns c = path_serves_tests
