use Rattle.std.proofs.Common.{◌≡◌, ℕ, ◌+◌, ◌≤◌, IsTrue}
use Rattle.pager.specs.PagerState.{IsPageNumber}
use Rattle.pager.specs.Calls.{SameImage}
use Rattle.btree.specs.image.Pages.{pages_seen}
use Rattle.btree.specs.image.Shape.{HasShape, IsTreeAt}
use Rattle.btree_cursor.proofs.cursor.cursor.depth.Given as goal

abbrev pub invariant-loop-above : goal.invariant-loop-above
invariant-loop-above g l = record {
  image : SameImage l.fn.pager.state l.pager.state;
  failures : l.pager.state.source.failures ≡ l.fn.pager.state.source.failures;
  chained : l.pager.state.chained ≡ l.fn.pager.state.chained;
  number : IsPageNumber l.pager.state l.number;
  asks : l.pager.state.asked ≤ l.fn.pager.state.asked + l.above;
  shape : IsTrue l.fn.pager.state.source.steady → (levels : ℕ) → IsTreeAt (pages_seen l.fn.pager.state) l.kind levels l.root
      → (height : ℕ) × (height + l.above ≡ levels) × HasShape (pages_seen l.fn.pager.state) l.kind height l.number;
}
