use Rattle.btree_cursor.proofs.lemmas.key_ranges.RunLemmas.{range_is_one_run}
use Rattle.btree_cursor.proofs.key_ranges.laws.range_is_one_run.Goals as goal

pub returns : goal.returns
returns c = range_is_one_run
