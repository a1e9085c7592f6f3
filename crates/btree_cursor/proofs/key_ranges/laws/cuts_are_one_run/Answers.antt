use Rattle.btree_cursor.proofs.lemmas.key_ranges.RunLemmas.{cuts_are_one_run}
use Rattle.btree_cursor.proofs.key_ranges.laws.cuts_are_one_run.Goals as goal

pub returns : goal.returns
returns c = cuts_are_one_run
