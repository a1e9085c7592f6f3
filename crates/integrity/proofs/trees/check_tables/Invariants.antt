use Rattle.btree.specs.image.Pages.{pages_seen}
use Rattle.std.proofs.Common.{◌≡◌, IsTrue, map, take}
use Rattle.std.specs.List.{AllZip}
use Rattle.pager.specs.Calls.{SameImage}
use Rattle.integrity.specs.Tables.{IsAnyChecked, any_tree}
use Rattle.integrity.proofs.TreesLemmas.{MarksTreesBefore}
use Rattle.integrity.proofs.trees.check_tables.Given as goal

abbrev pub invariant-loop-table : goal.invariant-loop-table
invariant-loop-table g l = record {
  stays : SameImage l.fn.pager.state l.pager.state;
  failures : l.pager.state.source.failures ≡ l.fn.pager.state.source.failures;
  checked : IsTrue l.fn.pager.state.source.steady
      → AllZip (IsAnyChecked (pages_seen l.fn.pager.state)) (take l.table-index l.tables) l.trees.items;
  marks : IsTrue l.fn.pager.state.source.steady → MarksTreesBefore (pages_seen l.fn.pager.state) (map any_tree l.tables) l.table-index l.fn.used l.used;
}
