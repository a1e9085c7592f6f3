use Rattle.btree_cursor.specs.cursor.Left.{steps_left}
use Rattle.integrity_trees.proofs.lemmas.entry_rows.ListedLemmas.{Listing}
use Rattle.integrity_trees.proofs.lemmas.entry_rows.MetLemmas.{Standing}
use Rattle.integrity_trees.proofs.entry_rows.rows.all_entries.Given as goal

abbrev pub invariant-loop-rows : goal.invariant-loop-rows
invariant-loop-rows g l = record {
  listing : Listing l.fn.pager.state l.pager.state l.root l.cursor l.rows.items;
  standing : Standing l.fn.pager.state l.pager.state l.root l.cursor;
}

abbrev pub decreases-loop-rows : goal.decreases-loop-rows
decreases-loop-rows g l = steps_left l.cursor
