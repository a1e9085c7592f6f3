use Rattle.std.proofs.Common.{◌≡◌, ◌<◌, ◌≤◌, ◌-◌, ℕ, IsTrue, List, None, true, false}
use Rattle.values.specs.Datum.{Datum}
use Rattle.pager.specs.Calls.{AsksChainsOnly}
use Rattle.pager.specs.PagerState.{image_size}
use Rattle.btree.specs.image.Cell.{CellData}
use Rattle.btree.specs.image.Layout.{cell_count}
use Rattle.btree.specs.image.Pages.{pages_seen}
use Rattle.btree.specs.image.Search.{HasKeyThat}
use Rattle.btree.specs.image.Entries.{IsAtPlace}
use Rattle.btree.specs.image.Tree.{Place}
use Rattle.btree.specs.Bytes.{IsEntryCell}
use Rattle.btree_cursor.specs.index_entries.Entries.{AreValuesOf, IsViewIn}
use Rattle.btree_cursor.specs.index_entries.Sought.{comes_before}
use Rattle.btree_cursor.proofs.index_entries.search.entry_boundary.Given as goal

abbrev pub invariant-loop-low : goal.invariant-loop-low
invariant-loop-low g l = record {
  order : l.low ≤ l.high;
  most : l.high ≤ cell_count l.view.at l.view.page;
  chains : AsksChainsOnly l.fn.pager.state l.pager.state;
  failures : l.pager.state.source.failures ≡ l.fn.pager.state.source.failures;
  local : ((i : ℕ) (cell : CellData) → i < cell_count l.view.at l.view.page
      → IsEntryCell l.view.at (image_size l.fn.pager.state.header) l.view.level l.view.page i cell → cell.payload.overflow ≡ None)
      → l.pager.state ≡ l.fn.pager.state;
  last : IsTrue l.fn.pager.state.source.steady → (values : Place → List Datum) → IsViewIn (pages_seen l.fn.pager.state) l.n l.view
      → AreValuesOf (pages_seen l.fn.pager.state) values l.view.level l.n → 0 < l.low
      → HasKeyThat (IsAtPlace l.view.level l.n) (λ place. comes_before l.key (values place)) true (l.low - 1);
  next : IsTrue l.fn.pager.state.source.steady → (values : Place → List Datum) → IsViewIn (pages_seen l.fn.pager.state) l.n l.view
      → AreValuesOf (pages_seen l.fn.pager.state) values l.view.level l.n → l.high < cell_count l.view.at l.view.page
      → HasKeyThat (IsAtPlace l.view.level l.n) (λ place. comes_before l.key (values place)) false l.high;
}

abbrev pub decreases-loop-low : goal.decreases-loop-low
decreases-loop-low g l = l.high - l.low
