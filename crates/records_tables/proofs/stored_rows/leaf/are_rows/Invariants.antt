use Rattle.std.proofs.Common.{ℕ, ℤ, ◌<◌}
use Rattle.btree.specs.declared.image.kind.Level.TheVariants.{Leaf}
use Rattle.btree.specs.image.Pages.{Pages}
use Rattle.records_tables.specs.stored_rows.Keys.{HasKeyAt, FitSoFar}
use Rattle.records_tables.specs.stored_rows.RowFaults.{IsRowIn}
use Rattle.records_tables.proofs.stored_rows.leaf.are_rows.Given as goal

abbrev pub invariant-loop-i : goal.invariant-loop-i
invariant-loop-i l = record {
  cells : (j : ℕ) → j < l.i → (key : ℤ) × HasKeyAt l.view.at l.most l.view.page Leaf j key;
  fit : FitSoFar (HasKeyAt l.view.at l.most l.view.page Leaf) l.fn.low l.high l.last l.i;
  rows : (pages : Pages) (j : ℕ) → j < l.i → IsRowIn pages l.table l.view.at l.most l.view.page j;
}
