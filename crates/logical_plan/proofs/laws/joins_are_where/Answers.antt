use Rattle.logical_plan.proofs.WholeLemmas.{join_hits, join_is_bag, join_is_where}
use Rattle.logical_plan.proofs.laws.joins_are_where.Goals as goal

pub returns-clause-rows : goal.returns-clause-rows
returns-clause-rows c = join_is_where

pub returns-clause-bag : goal.returns-clause-bag
returns-clause-bag c = join_is_bag

pub returns-clause-hits : goal.returns-clause-hits
returns-clause-hits c = join_hits
