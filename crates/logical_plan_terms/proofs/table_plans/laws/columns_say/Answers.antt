use Rattle.logical_plan_terms.proofs.lemmas.table_plans.HitLemmas.{columns_are_hit}
use Rattle.logical_plan_terms.proofs.lemmas.table_plans.RowLemmas.{columns_say}
use Rattle.logical_plan_terms.proofs.table_plans.laws.columns_say.Goals as goal

pub returns-clause-says : goal.returns-clause-says
returns-clause-says c = columns_say

pub returns-clause-hits : goal.returns-clause-hits
returns-clause-hits c = columns_are_hit
