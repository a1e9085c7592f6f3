use Rattle.std.proofs.Common.{ℕ, ℤ, ◌<◌, IsTrue, IsFalse}
use Rattle.btree.specs.image.Layout.{cell_count}
use Rattle.records_tables.specs.stored_rows.Keys.{HasKeyAt, KeysFit, FitSoFar}
use Rattle.records_tables.proofs.stored_rows.keys.keys_fit.Given as goal

abbrev pub invariant-loop-i : goal.invariant-loop-i
invariant-loop-i l = record {
  cells : (j : ℕ) → j < l.i → (key : ℤ) × HasKeyAt l.view.at l.most l.view.page l.view.level j key;
  fits : IsTrue l.fit → FitSoFar (HasKeyAt l.view.at l.most l.view.page l.view.level) l.fn.low l.high l.last l.i;
  unfit : IsFalse l.fit → KeysFit (HasKeyAt l.view.at l.most l.view.page l.view.level) (cell_count l.view.at l.view.page) l.fn.low l.high → ⊥;
}
