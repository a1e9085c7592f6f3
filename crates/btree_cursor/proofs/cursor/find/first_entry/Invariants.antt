use Rattle.std.proofs.Common.{◌≡◌, ℕ, ◌+◌, ◌<◌, ◌≤◌, List, IsTrue}
use Rattle.std.specs.Prelude.{IfSome}
use Rattle.values.specs.Datum.{Datum}
use Rattle.pager.specs.PagerState.{IsPageNumber}
use Rattle.pager.specs.Calls.{SameImage}
use Rattle.btree.specs.declared.image.kind.TreeKind.TheVariants.{Index}
use Rattle.btree.specs.image.Pages.{pages_seen}
use Rattle.btree.specs.image.Tree.{Place}
use Rattle.btree_cursor.specs.cursor.Search.{IsSearchableIndex, IsUnchainedIndex}
use Rattle.btree_cursor.specs.cursor.Way.{StandsOn}
use Rattle.btree_cursor.proofs.lemmas.cursor.FindLemmas.{IsEntryFinding, IsOnWay}
use Rattle.btree_cursor.proofs.cursor.find.first_entry.Given as goal

abbrev pub invariant-loop-above : goal.invariant-loop-above
invariant-loop-above g l = record {
  image : SameImage l.fn.pager.state l.pager.state;
  failures : l.pager.state.source.failures ≡ l.fn.pager.state.source.failures;
  chained : IsTrue l.fn.pager.state.source.steady → IsUnchainedIndex (pages_seen l.fn.pager.state) l.root
      → l.pager.state.chained ≡ l.fn.pager.state.chained;
  number : IsPageNumber l.pager.state l.number;
  asks : l.pager.state.asked ≤ l.fn.pager.state.asked + l._above;
  way : IsTrue l.fn.pager.state.source.steady → IsOnWay (pages_seen l.fn.pager.state) Index l.root l._above l.number;
  seeks : IsTrue l.fn.pager.state.source.steady → (levels : ℕ) (values : Place → List Datum)
      (index : IsSearchableIndex (pages_seen l.fn.pager.state) l.key.descends.now values levels l.root)
      → IsEntryFinding (pages_seen l.fn.pager.state) l.key values levels l.root index l.number l.left;
  stands : IsTrue l.fn.pager.state.source.steady → IfSome l.left (StandsOn (pages_seen l.fn.pager.state) Index l.root);
  within : IfSome l.left (λ frame. frame.at < frame.count);
}
