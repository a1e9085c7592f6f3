use Rattle.std.proofs.Common.{◌≡◌, ℕ, ◌+◌, ◌≤◌, IsTrue}
use Rattle.pager.specs.PagerState.{IsPageNumber}
use Rattle.pager.specs.Calls.{SameImage}
use Rattle.btree.specs.declared.image.kind.TreeKind.TheVariants.{Table}
use Rattle.btree.specs.image.Pages.{pages_seen}
use Rattle.btree_cursor.specs.cursor.Search.{IsSearchable}
use Rattle.btree_cursor.proofs.lemmas.cursor.FindLemmas.{IsOnWay, IsRowFinding}
use Rattle.btree_cursor.proofs.cursor.find.leaf_for.Given as goal

abbrev pub invariant-loop-above : goal.invariant-loop-above
invariant-loop-above g l = record {
  image : SameImage l.fn.pager.state l.pager.state;
  failures : l.pager.state.source.failures ≡ l.fn.pager.state.source.failures;
  chained : l.pager.state.chained ≡ l.fn.pager.state.chained;
  number : IsPageNumber l.pager.state l.number;
  asks : l.pager.state.asked ≤ l.fn.pager.state.asked + l._above;
  way : IsTrue l.fn.pager.state.source.steady → IsOnWay (pages_seen l.fn.pager.state) Table l.root l._above l.number;
  seeks : IsTrue l.fn.pager.state.source.steady → (levels : ℕ) (table : IsSearchable (pages_seen l.fn.pager.state) levels l.root)
      → IsRowFinding (pages_seen l.fn.pager.state) l.root l.rowid levels table.order l.number;
}
