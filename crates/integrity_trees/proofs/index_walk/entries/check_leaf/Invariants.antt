use Rattle.std.proofs.Common.{◌≡◌, IsTrue, map}
use Rattle.std.specs.List.{range_with_len}
use Rattle.pager.specs.Calls.{AsksChainsOnly}
use Rattle.btree.specs.declared.image.kind.Level.TheVariants.{Leaf}
use Rattle.btree.specs.image.Pages.{pages_seen}
use Rattle.btree.specs.image.Shape.{place_at}
use Rattle.integrity_trees.proofs.lemmas.tree_walk.UsedLemmas.{MarksPart}
use Rattle.integrity_trees.specs.index_walk.Checked.{index_tree}
use Rattle.integrity_trees.specs.index_walk.Walked.{IsIndexPage, IsEntryRunFrom}
use Rattle.integrity_trees.proofs.lemmas.index_walk.EntryLemmas.{IsLastBefore}
use Rattle.integrity_trees.proofs.index_walk.entries.check_leaf.Given as goal

abbrev pub invariant-loop-i : goal.invariant-loop-i
invariant-loop-i g l = record {
  chains : AsksChainsOnly l.fn.pager.state l.pager.state;
  failures : l.pager.state.source.failures ≡ l.fn.pager.state.source.failures;
  run : IsTrue l.fn.pager.state.source.steady → IsIndexPage (pages_seen l.fn.pager.state) l.tree.root l.n l.view
      → IsEntryRunFrom (pages_seen l.fn.pager.state) l.tree.widths l.tree.descends.now (map (place_at l.n) (range_with_len 0 l.i)) l.fn.last l.last;
  before : IsTrue l.fn.pager.state.source.steady → IsIndexPage (pages_seen l.fn.pager.state) l.tree.root l.n l.view
      → IsLastBefore (pages_seen l.fn.pager.state) l.tree.widths l.n l.i l.fn.last l.last;
  marks : IsTrue l.fn.pager.state.source.steady → IsIndexPage (pages_seen l.fn.pager.state) l.tree.root l.n l.view
      → MarksPart (pages_seen l.fn.pager.state) (index_tree l.tree.root) Leaf l.n 0 l.i 0 l.fn.used l.used;
}
