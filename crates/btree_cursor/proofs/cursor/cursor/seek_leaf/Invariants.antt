use Rattle.std.proofs.Common.{◌≡◌, ℕ, ◌+◌, ◌-◌, ◌≤◌, length, vec_len, IsTrue}
use Rattle.pager.specs.PagerState.{IsPageNumber}
use Rattle.pager.specs.Calls.{SameImage}
use Rattle.btree.specs.image.Shape.{size_under}
use Rattle.btree_cursor.specs.cursor.Left.{frames_left, worth}
use Rattle.btree_cursor.specs.cursor.Search.{IsSearchable}
use Rattle.btree.specs.image.Pages.{pages_seen}
use Rattle.btree_cursor.proofs.lemmas.cursor.RowSeekLemmas.{IsRowSeeking}
use Rattle.btree.specs.declared.image.kind.TreeKind.TheVariants.{Table}
use Rattle.btree_cursor.specs.cursor.Way.{LeadsTo}
use Rattle.btree_cursor.proofs.cursor.cursor.seek_leaf.Given as goal

abbrev pub invariant-loop-pager : goal.invariant-loop-pager
invariant-loop-pager g l = record {
  image : SameImage l.fn.pager.state l.pager.state;
  failures : l.pager.state.source.failures ≡ l.fn.pager.state.source.failures;
  chained : l.pager.state.chained ≡ l.fn.pager.state.chained;
  number : IsPageNumber l.pager.state l.number;
  seeks : IsTrue l.fn.pager.state.source.steady → (levels : ℕ) (table : IsSearchable (pages_seen l.fn.pager.state) levels l.root)
      → IsRowSeeking (pages_seen l.fn.pager.state) l.root l.behind l.key levels table.order l.frames.items l.number l.pager.state.asked
      (l.fn.pager.state.asked + size_under (pages_seen l.fn.pager.state) levels l.root);
  way : IsTrue l.fn.pager.state.source.steady → LeadsTo (pages_seen l.fn.pager.state) Table l.root l.frames.items l.number;
  asks : l.pager.state.asked ≤ l.fn.pager.state.asked + length l.frames.items;
  left : frames_left 20 l.frames.items + worth (21 - length l.frames.items) ≤ frames_left 20 l.fn.frames.items + worth (21 - length l.fn.frames.items);
}

abbrev pub decreases-loop-pager : goal.decreases-loop-pager
decreases-loop-pager g l = 20 - vec_len l.frames
