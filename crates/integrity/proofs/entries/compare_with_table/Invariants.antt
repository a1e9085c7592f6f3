use Rattle.std.proofs.Common.{◌≡◌, All, IsTrue, take}
use Rattle.pager.specs.Calls.{SameImage}
use Rattle.btree.specs.image.Pages.{pages_seen}
use Rattle.schema.specs.indexes.IndexView.{index_data}
use Rattle.schema_keys.specs.Names.{IsSameName}
use Rattle.integrity_indexes.specs.index_rows.Checked.{IsCheckedTable}
use Rattle.integrity.specs.Indexes.{AreItsEntries, IsCheckedIndexWith}
use Rattle.integrity.proofs.entries.compare_with_table.Given as goal

abbrev pub invariant-loop-table : goal.invariant-loop-table
invariant-loop-table g l = record {
  stays : SameImage l.fn.pager.state l.pager.state;
  failures : l.pager.state.source.failures ≡ l.fn.pager.state.source.failures;
  each : IsTrue l.fn.pager.state.source.steady → All (IsCheckedTable (pages_seen l.fn.pager.state)) l.fn.tables
      → IsCheckedIndexWith (pages_seen l.fn.pager.state) l.fn.tables (index_data l.fn.index) l.fn.entries
      → All (λ table. IsSameName (index_data l.fn.index).table table.name → AreItsEntries (pages_seen l.fn.pager.state) table (index_data l.fn.index))
      (take l.table-index l.tables);
}
