use Rattle.std.proofs.Common.{◌≡◌, ◌+◌, ◌-◌, ◌<◌, ◌≤◌, suc, IsTrue}
use Rattle.pager.specs.Calls.{SameImage}
use Rattle.btree.specs.image.Pages.{pages_seen}
use Rattle.integrity_trees.proofs.lemmas.index_walk.BranchLemmas.{AreBranches}
use Rattle.integrity_trees.proofs.index_walk.walk.+walk.Given as goal

abbrev pub decreases-walk : goal.decreases-walk
decreases-walk g l = 21 - l.depth

abbrev pub invariant-loop-i : goal.invariant-loop-i
invariant-loop-i g l = record {
  stays : SameImage l.fn.pager.state l.pager.state;
  failures : l.pager.state.source.failures ≡ l.fn.pager.state.source.failures;
  shallow : 0 < l.i → suc l.counts.levels + l.depth ≤ 20;
  befores : IsTrue l.fn.pager.state.source.steady
      → AreBranches (pages_seen l.fn.pager.state) l.tree.widths l.tree.descends.now l.tree.root l.n l.i l.counts l.fn.used l.used l.fn.last l.last;
}
