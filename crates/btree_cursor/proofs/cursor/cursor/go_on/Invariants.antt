use Rattle.std.proofs.Common.{◌≡◌, ℕ, ◌≤◌, List, vec_len, IsTrue}
use Rattle.btree.specs.image.Tree.{Place}
use Rattle.btree.specs.image.Pages.{pages_seen}
use Rattle.btree_cursor.specs.cursor.Left.{frames_left}
use Rattle.btree_cursor.specs.cursor.Rest.{IsLeft}
use Rattle.btree_cursor.proofs.lemmas.cursor.HeldLemmas.{IsUp}
use Rattle.btree_cursor.specs.cursor.Way.{IsWay}
use Rattle.btree_cursor.proofs.cursor.cursor.go_on.Given as goal

abbrev pub invariant-loop-frame : goal.invariant-loop-frame
invariant-loop-frame g l = record {
  same : l.pager.state ≡ l.fn.pager.state;
  left : IsTrue l.pager.state.source.steady → (total : ℕ) (rest : List Place) (budget : ℕ)
      → IsLeft (pages_seen l.pager.state) l.kind total 0 l.fn.frames.items rest l.pager.state.asked budget
      → (levels : ℕ) × IsLeft (pages_seen l.pager.state) l.kind total levels l.frames.items rest l.pager.state.asked budget;
  way : IsTrue l.pager.state.source.steady → IsWay (pages_seen l.pager.state) l.kind l.root l.fn.frames.items
      → IsWay (pages_seen l.pager.state) l.kind l.root l.frames.items;
  less : frames_left 20 l.frames.items ≤ frames_left 20 l.fn.frames.items;
  up : IsUp l.fn.frames.items l.frames.items;
}

abbrev pub decreases-loop-frame : goal.decreases-loop-frame
decreases-loop-frame g l = vec_len l.frames
