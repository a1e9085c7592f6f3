-- Whether an index has the entries that its table's rows want. (Database File Format, section 2.3 "Representation Of SQL
-- Indices", and section 2.4 "Representation Of WITHOUT ROWID Tables"; Partial Indexes; the faults of docs/FAULTS.md)
use Rattle.std.specs.Prelude.{ℕ, IsPermutation, List, Option}
use Rattle.values.specs.Row.{Row}
use Rattle.btree.specs.image.Pages.{Pages}
use Rattle.expr.specs.Term.{Term}
use Rattle.integrity_trees.specs.wanted_entries.Wanted.{IndexedPlaces, IsDifferent, KeyedRow, wanted}
use Rattle.schema_tables.specs.TableData.{TableData}
use Rattle.integrity_trees.specs.entry_prefixes.Entries.{HoldsEntries}
use Rattle.integrity_indexes.specs.index_rows.Kept.{keeps_row}
use Rattle.integrity_indexes.specs.index_rows.Rows.{HoldsTableRows}

-- the index of these columns has exactly the entries that those rows of the table want which its condition keeps
pub record IsIndexOf (pages : Pages) (table : TableData) (index : IndexedPlaces) (condition : Option Term) (root : ℕ) : Type 0 where
  pub rows : List KeyedRow
  pub entries : List Row
  pub rows_are : HoldsTableRows table.key pages table rows
  pub entries_are : HoldsEntries pages root entries
  pub same : IsPermutation entries (wanted index (keeps_row condition) rows)

-- it hasn't: IndexDiffers
pub record IsDifferentIndex (pages : Pages) (table : TableData) (index : IndexedPlaces) (condition : Option Term) (root : ℕ) : Type 0 where
  pub rows : List KeyedRow
  pub entries : List Row
  pub rows_are : HoldsTableRows table.key pages table rows
  pub entries_are : HoldsEntries pages root entries
  pub differ : IsDifferent index (keeps_row condition) rows entries
