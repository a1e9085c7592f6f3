use Rattle.std.proofs.Common.{◌≡◌, All, IsTrue, Contains, map}
use Rattle.std.specs.List.{AllZip}
use Rattle.pager.specs.Calls.{SameImage}
use Rattle.btree.specs.image.Pages.{pages_seen}
use Rattle.schema.specs.indexes.IndexView.{index_data}
use Rattle.schema_keys.specs.Names.{IsSameName}
use Rattle.schema_tables.specs.TableData.{TableData}
use Rattle.integrity_indexes.specs.index_rows.Checked.{IsCheckedTable}
use Rattle.integrity.specs.Indexes.{AreItsEntries, IsCheckedIndexOf}
use Rattle.integrity.proofs.ZipLemmas.{AreBeside}
use Rattle.integrity.proofs.entries.check_entries.Given as goal

abbrev pub invariant-loop-index : goal.invariant-loop-index
invariant-loop-index g l = record {
  stays : SameImage l.fn.pager.state l.pager.state;
  failures : l.pager.state.source.failures ≡ l.fn.pager.state.source.failures;
  beside : IsTrue l.fn.pager.state.source.steady → All (IsCheckedTable (pages_seen l.fn.pager.state)) l.fn.tables
      → AllZip (IsCheckedIndexOf (pages_seen l.fn.pager.state) l.fn.tables) (map index_data l.fn.indexes) l.fn.counted
      → AreBeside (λ index. IsCheckedIndexOf (pages_seen l.fn.pager.state) l.fn.tables (index_data index))
      (λ index. (table : TableData) → Contains l.fn.tables table → IsSameName (index_data index).table table.name
      → AreItsEntries (pages_seen l.fn.pager.state) table (index_data index))
      l.fn.indexes l.index-iterator.a.rest.now l.index-iterator.b.rest.now;
}
