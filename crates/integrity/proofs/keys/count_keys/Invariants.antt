use Rattle.std.proofs.Common.{◌≡◌, All, IsTrue, take}
use Rattle.std.specs.List.{AllZip}
use Rattle.pager.specs.Calls.{SameImage}
use Rattle.btree.specs.image.Pages.{pages_seen}
use Rattle.integrity_indexes.specs.index_rows.Checked.{IsCheckedTable}
use Rattle.integrity.specs.Keys.{HasKeyCounts}
use Rattle.integrity.proofs.keys.count_keys.Given as goal

abbrev pub invariant-loop-table : goal.invariant-loop-table
invariant-loop-table g l = record {
  stays : SameImage l.fn.pager.state l.pager.state;
  failures : l.pager.state.source.failures ≡ l.fn.pager.state.source.failures;
  counts : IsTrue l.fn.pager.state.source.steady → All (IsCheckedTable (pages_seen l.fn.pager.state)) l.tables
      → AllZip (HasKeyCounts (pages_seen l.fn.pager.state)) (take l.table-index l.tables) l.counted.items;
}
