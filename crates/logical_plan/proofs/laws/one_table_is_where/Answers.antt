use Rattle.logical_plan.proofs.HitLemmas.{one_table_hits}
use Rattle.logical_plan.proofs.WhereLemmas.{one_table_is_where, one_table_works}
use Rattle.logical_plan.proofs.laws.one_table_is_where.Goals as goal

pub returns-clause-rows : goal.returns-clause-rows
returns-clause-rows c = one_table_is_where

pub returns-clause-hits : goal.returns-clause-hits
returns-clause-hits c = one_table_hits

pub returns-clause-work : goal.returns-clause-work
returns-clause-work c = one_table_works
