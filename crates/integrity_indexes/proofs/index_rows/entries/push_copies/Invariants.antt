use Rattle.std.proofs.Common.{◌≡◌, ◌++◌, map, take}
use Rattle.values.specs.Datum.{datum_of}
use Rattle.integrity_trees.specs.wanted_entries.Wanted.{values_at}
use Rattle.integrity_indexes.proofs.index_rows.entries.push_copies.Given as goal

abbrev pub invariant-loop-i : goal.invariant-loop-i
invariant-loop-i l = l.entry ≡ l.fn.entry ++ values_at (map datum_of l.row) (take l.i l.places)
