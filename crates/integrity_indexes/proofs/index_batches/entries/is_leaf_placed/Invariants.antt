use Rattle.std.proofs.Common.{◌≡◌, ◌<◌, ℕ, IsTrue}
use Rattle.values.specs.Row.{Row}
use Rattle.pager.specs.Calls.{AsksChainsOnly}
use Rattle.btree.specs.image.Pages.{pages_seen}
use Rattle.btree.specs.image.Shape.{place_at}
use Rattle.btree.specs.image.Tree.{Place}
use Rattle.btree_cursor.specs.index_entries.Entries.{AreValuesOf, IsViewIn}
use Rattle.integrity_indexes.specs.index_batches.Placed.{IsPlaced}
use Rattle.integrity_indexes.proofs.index_batches.entries.is_leaf_placed.Given as goal

abbrev pub invariant-loop-i : goal.invariant-loop-i
invariant-loop-i g l = record {
  chains : AsksChainsOnly l.fn.pager.state l.pager.state;
  failures : l.pager.state.source.failures ≡ l.fn.pager.state.source.failures;
  placed : IsTrue l.fn.pager.state.source.steady → (values : Place → Row) → IsViewIn (pages_seen l.fn.pager.state) l.n l.view
      → AreValuesOf (pages_seen l.fn.pager.state) values l.view.level l.n → (j : ℕ) → j < l.i
      → IsPlaced l.sought.batch.now l.sought.above l.sought.most l.sought.columns (values (place_at l.n j));
}
