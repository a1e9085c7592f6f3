use Rattle.btree.specs.image.Pages.{pages_seen}
use Rattle.std.proofs.Common.{◌≡◌, IsTrue, map, take}
use Rattle.std.specs.List.{AllZip}
use Rattle.pager.specs.Calls.{SameImage}
use Rattle.schema.specs.indexes.IndexView.{index_data}
use Rattle.integrity.specs.Indexes.{IsCheckedIndexOf}
use Rattle.integrity.specs.Used.{index_tree_of}
use Rattle.integrity.proofs.TreesLemmas.{MarksTreesBefore}
use Rattle.integrity.proofs.index_trees.check_indexes.Given as goal

abbrev pub invariant-loop-index : goal.invariant-loop-index
invariant-loop-index g l = record {
  stays : SameImage l.fn.pager.state l.pager.state;
  failures : l.pager.state.source.failures ≡ l.fn.pager.state.source.failures;
  checked : IsTrue l.fn.pager.state.source.steady
      → AllZip (IsCheckedIndexOf (pages_seen l.fn.pager.state) l.fn.tables) (take l.index-index (map index_data l.indexes)) l.counted.items;
  marks : IsTrue l.fn.pager.state.source.steady
      → MarksTreesBefore (pages_seen l.fn.pager.state) (map index_tree_of (map index_data l.indexes)) l.index-index l.fn.used l.used;
}
