use Rattle.std.proofs.Common.{◌≡◌, ℕ, ◌+◌, ◌-◌, ◌≤◌, List, length, vec_len, IsTrue}
use Rattle.pager.specs.PagerState.{IsPageNumber}
use Rattle.pager.specs.Calls.{SameImage}
use Rattle.btree.specs.image.Tree.{Place}
use Rattle.btree.specs.image.Pages.{pages_seen}
use Rattle.btree_cursor.specs.cursor.Left.{frames_left, worth}
use Rattle.btree_cursor.specs.cursor.Rest.{HasCellsFrom}
use Rattle.btree_cursor.proofs.lemmas.cursor.HeldLemmas.{IsDown}
use Rattle.btree_cursor.specs.cursor.Way.{LeadsTo}
use Rattle.btree_cursor.proofs.cursor.cursor.descend.Given as goal

abbrev pub invariant-loop-kind : goal.invariant-loop-kind
invariant-loop-kind g l = record {
  image : SameImage l.fn.pager.state l.pager.state;
  failures : l.pager.state.source.failures ≡ l.fn.pager.state.source.failures;
  chained : l.pager.state.chained ≡ l.fn.pager.state.chained;
  number : IsPageNumber l.pager.state l.number;
  heads : IsTrue l.fn.pager.state.source.steady → (levels : ℕ) (places : List Place) (budget : ℕ)
      → HasCellsFrom (pages_seen l.fn.pager.state) l.kind levels l.fn.frames.items l.n places l.fn.pager.state.asked budget
      → HasCellsFrom (pages_seen l.fn.pager.state) l.kind levels l.frames.items l.number places l.pager.state.asked budget;
  way : IsTrue l.fn.pager.state.source.steady → LeadsTo (pages_seen l.fn.pager.state) l.kind l.root l.fn.frames.items l.n
      → LeadsTo (pages_seen l.fn.pager.state) l.kind l.root l.frames.items l.number;
  asks : l.pager.state.asked + length l.fn.frames.items ≤ l.fn.pager.state.asked + length l.frames.items;
  left : frames_left 20 l.frames.items + worth (21 - length l.frames.items) ≤ frames_left 20 l.fn.frames.items + worth (21 - length l.fn.frames.items);
  down : IsDown l.fn.frames.items l.frames.items;
}

abbrev pub decreases-loop-kind : goal.decreases-loop-kind
decreases-loop-kind g l = 20 - vec_len l.frames
