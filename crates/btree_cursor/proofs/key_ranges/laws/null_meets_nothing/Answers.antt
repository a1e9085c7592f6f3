use Rattle.btree_cursor.proofs.lemmas.key_ranges.RangeLemmas.{null_meets_nothing}
use Rattle.btree_cursor.proofs.key_ranges.laws.null_meets_nothing.Goals as goal

pub returns : goal.returns
returns c = null_meets_nothing
