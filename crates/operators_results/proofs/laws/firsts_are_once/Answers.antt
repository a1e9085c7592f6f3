use Rattle.windows_groups.proofs.lemmas.distinct_rows.FirstLemmas.{firsts_are_once}
use Rattle.operators_results.proofs.laws.firsts_are_once.Goals as goal

pub returns : goal.returns
returns c = firsts_are_once
