use Rattle.std.proofs.Common.{◌≡◌, ◌<◌, ℕ, suc, IsTrue}
use Rattle.values.specs.Row.{Row}
use Rattle.pager.specs.Calls.{SameImage}
use Rattle.btree.specs.image.Pages.{pages_seen}
use Rattle.btree.specs.image.Tree.{Place}
use Rattle.integrity_indexes.specs.index_batches.Trees.{AllPlaced, IsTreePage}
use Rattle.integrity_indexes.proofs.lemmas.index_batches.TreeLemmas.{branch}
use Rattle.integrity_indexes.proofs.index_batches.tree.+is_placed_under.Given as goal

abbrev pub decreases-is_placed_under : goal.decreases-is_placed_under
decreases-is_placed_under g l = l.levels

abbrev pub invariant-loop-i : goal.invariant-loop-i
invariant-loop-i g l = record {
  stays : SameImage l.fn.pager.state l.pager.state;
  failures : l.pager.state.source.failures ≡ l.fn.pager.state.source.failures;
  placed : IsTrue l.fn.pager.state.source.steady → (values : Place → Row) (root height : ℕ)
      → IsTreePage (pages_seen l.fn.pager.state) values root (suc height) l.n → suc height < l.levels → (j : ℕ) → j < l.i
      → AllPlaced l.sought.batch.now l.sought.above l.sought.most l.sought.columns values
      (branch l.sought.batch.now l.sought.above l.sought.most l.sought.columns values (pages_seen l.fn.pager.state) height l.n j);
}
