use Rattle.btree_cursor.proofs.lemmas.key_ranges.RangeLemmas.{cuts_are_range}
use Rattle.btree_cursor.proofs.key_ranges.laws.cuts_are_range.Goals as goal

pub returns : goal.returns
returns c = cuts_are_range
