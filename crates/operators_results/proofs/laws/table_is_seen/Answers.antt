use Rattle.logical_plan.proofs.lemmas.answers.OrderLemmas.{table_keys_are_seen}
use Rattle.logical_plan.proofs.lemmas.answers.ResultLemmas.{table_is_seen}
use Rattle.operators_results.proofs.laws.table_is_seen.Goals as goal

pub returns-clause-rows : goal.returns-clause-rows
returns-clause-rows c = table_is_seen

pub returns-clause-keys : goal.returns-clause-keys
returns-clause-keys c = table_keys_are_seen
