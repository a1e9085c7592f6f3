use Rattle.btree.specs.image.Pages.{pages_seen}
use Rattle.std.proofs.Common.{All, ◌≡◌, ℕ, suc, ◌+◌, ◌-◌, ◌<◌, ◌≤◌, IsTrue}
use Rattle.pager.specs.Calls.{SameImage}
use Rattle.btree.specs.declared.image.kind.TreeKind.TheVariants.{Table}
use Rattle.btree.specs.image.Shape.{places_under}
use Rattle.btree.specs.image.Tree.{child_at}
use Rattle.records_tables.specs.stored_rows.Stored.{HoldsRow}
use Rattle.values.specs.Bounds.{counted}
use Rattle.integrity_trees.specs.tree_walk.Counts.{cells_before, size_before}
use Rattle.integrity_trees.specs.table_walk.Walked.{IsBranch}
use Rattle.integrity_trees.proofs.lemmas.table_walk.UsedLemmas.{AreChildrenWalked}
use Rattle.integrity_trees.proofs.table_walk.walk.+walk.Given as goal

abbrev pub decreases-walk : goal.decreases-walk
decreases-walk g l = 21 - l.depth

abbrev pub invariant-loop-i : goal.invariant-loop-i
invariant-loop-i g l = record {
  stays : SameImage l.fn.pager.state l.pager.state;
  failures : l.pager.state.source.failures ≡ l.fn.pager.state.source.failures;
  shallow : 0 < l.i → suc l.counts.levels + l.depth ≤ 20;
  branches : IsTrue l.fn.pager.state.source.steady → (k : ℕ) → k < l.i
      → IsBranch (pages_seen l.fn.pager.state) l.table.root l.counts.levels l.low l.high l.n k;
  held : IsTrue l.fn.pager.state.source.steady → (k : ℕ) → k < l.i
      → All (HoldsRow (pages_seen l.fn.pager.state) l.table) (places_under (pages_seen l.fn.pager.state) Table l.counts.levels (child_at (pages_seen l.fn.pager.state) l.n k));
  rows : IsTrue l.fn.pager.state.source.steady → l.counts.cells ≡ counted (cells_before (pages_seen l.fn.pager.state) Table l.counts.levels l.n l.i);
  size : IsTrue l.fn.pager.state.source.steady → l.counts.pages ≡ counted (size_before (pages_seen l.fn.pager.state) l.counts.levels l.n l.i);
  marks : IsTrue l.fn.pager.state.source.steady
      → AreChildrenWalked (pages_seen l.fn.pager.state) l.table.root l.n l.i l.counts.levels l.fn.used l.used;
}
