use Rattle.std.proofs.Common.{◌≡◌, ℕ, List, IsTrue}
use Rattle.pager.specs.Calls.{AsksChainsOnly}
use Rattle.btree.specs.image.Pages.{pages_seen}
use Rattle.btree.specs.page_use.Marks.{AreTreeMarks}
use Rattle.btree.specs.image.Use.{Use, Users}
use Rattle.btree.specs.page_use.FreeWalk.{IsFreeWalk, IsNextTrunk}
use Rattle.btree.proofs.page_use.freelist.check_freelist.Given as goal

abbrev pub invariant-loop-next : goal.invariant-loop-next
invariant-loop-next g l = record {
  chained : AsksChainsOnly l.fn.pager.state l.pager.state;
  failures : l.pager.state.source.failures ≡ l.fn.pager.state.source.failures;
  walk : IsTrue l.fn.pager.state.source.steady → (k : ℕ)
      × IsFreeWalk (pages_seen l.fn.pager.state) l.fn.pager.state.header.freelist l.fn.pager.state.header.free_pages k l.next l.left
      × ((users : Users) (done : List Use) → users.first ≡ l.fn.pager.state.header.freelist
      → AreTreeMarks (pages_seen l.fn.pager.state) users done l.fn.used → IsNextTrunk (pages_seen l.fn.pager.state) users done k l.next l.used);
}

abbrev pub decreases-loop-next : goal.decreases-loop-next
decreases-loop-next g l = l.left
