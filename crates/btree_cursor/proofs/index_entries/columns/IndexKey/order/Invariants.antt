use Rattle.btree_cursor.specs.key_ranges.View.{value_list}
use Rattle.btree_cursor.proofs.lemmas.index_entries.KeyLemmas.{ArePassed}
use Rattle.btree_cursor.proofs.index_entries.columns.IndexKey.order.Given as goal

abbrev pub invariant-loop-at : goal.invariant-loop-at
invariant-loop-at l = ArePassed l.self.descends.now l.self.equal.now (value_list l.self.end.value) l.at l.fn.entry l.entry
