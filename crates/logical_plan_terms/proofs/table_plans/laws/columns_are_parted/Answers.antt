use Rattle.logical_plan_terms.proofs.lemmas.table_plans.PartLemmas.{columns_are_parted}
use Rattle.logical_plan_terms.proofs.table_plans.laws.columns_are_parted.Goals as goal

pub returns : goal.returns
returns c = columns_are_parted
