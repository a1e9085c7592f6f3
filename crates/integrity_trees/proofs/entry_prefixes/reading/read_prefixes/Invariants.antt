use Rattle.btree_cursor.specs.cursor.Left.{steps_left}
use Rattle.integrity_trees.proofs.lemmas.entry_prefixes.PrefixLemmas.{Following}
use Rattle.integrity_trees.proofs.entry_prefixes.reading.read_prefixes.Given as goal

abbrev pub invariant-loop-entry : goal.invariant-loop-entry
invariant-loop-entry g l = Following l.fn.pager.state l.pager.state l.root l.width l.cursor l.last l.prefixes

abbrev pub decreases-loop-entry : goal.decreases-loop-entry
decreases-loop-entry g l = steps_left l.cursor
