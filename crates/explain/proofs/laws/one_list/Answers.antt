use Rattle.explain.proofs.RowLemmas.{one_list}
use Rattle.explain.proofs.laws.one_list.Goals as goal

pub returns : goal.returns
returns c = one_list
