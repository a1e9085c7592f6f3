use Rattle.semantics.proofs.MoveLemmas.{left-join, filter-pairs, pairs-left, pairs-right}
use Rattle.semantics.proofs.laws.conditions_move_down.Goals as goal

pub returns-clause-into : goal.returns-clause-into
returns-clause-into c = filter-pairs

pub returns-clause-left : goal.returns-clause-left
returns-clause-left c = pairs-left

pub returns-clause-right : goal.returns-clause-right
returns-clause-right c = pairs-right

pub returns-clause-left_join : goal.returns-clause-left_join
returns-clause-left_join c = λ q p on m n ls rs. left-join q p on rs m n ls
