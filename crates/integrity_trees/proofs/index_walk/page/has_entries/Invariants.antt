use Rattle.std.proofs.Common.{◌<◌, ℕ}
use Rattle.btree.specs.image.Cell.{CellData}
use Rattle.btree.specs.Bytes.{IsEntryCell}
use Rattle.integrity_trees.proofs.index_walk.page.has_entries.Given as goal

abbrev pub invariant-loop-i : goal.invariant-loop-i
invariant-loop-i l = (k : ℕ) → k < l.i → (cell : CellData) × IsEntryCell l.view.at l.most l.view.level l.view.page k cell
