use Rattle.btree_cursor.proofs.lemmas.key_ranges.BagLemmas.{search_is_filter}
use Rattle.btree_cursor.proofs.key_ranges.laws.search_is_filter.Goals as goal

pub returns : goal.returns
returns c = search_is_filter
