use Rattle.std.proofs.Common.{◌≡◌, ◌++◌, take}
use Rattle.integrity_trees.specs.wanted_entries.Wanted.{values_at}
use Rattle.integrity_indexes.proofs.index_rows.entries.push_values.Given as goal

abbrev pub invariant-loop-i : goal.invariant-loop-i
invariant-loop-i l = l.entry ≡ l.fn.entry ++ values_at l.row (take l.i l.places)
