-- The tables of an image, of either kind: their trees, and their rows. (Database File Format, section 2.3 "Representation Of SQL
-- Tables", and section 2.4 "Representation Of WITHOUT ROWID Tables")
use Rattle.std.specs.Prelude.{List}
use Rattle.values.specs.declared.fault.Fault.{Fault}
use Rattle.values.specs.Row.{Row}
use Rattle.btree.specs.image.Pages.{Pages}
use Rattle.btree.specs.image.Use.{TreeData}
use Rattle.schema_tables.specs.TableData.{RowKeyData, TableData}
use Rattle.records_tables.specs.stored_rows.RowFaults.{IsBrokenTable}
use Rattle.records_tables.specs.stored_rows.Stored.{HoldsRows}
use Rattle.integrity_trees.specs.declared.tree_walk.counts.TreeCounts.{TreeCounts}
use Rattle.records_tables.specs.primary_rows.Held.{HoldsPrimaryRows}
use Rattle.integrity_trees.specs.primary_walk.Checked.{IsBrokenPrimary}
use Rattle.integrity_indexes.specs.index_rows.Checked.{IsCheckedBy}
use Rattle.records_tables.specs.Tables.{kind_of}

-- the tree of a table
abbrev pub any_tree : TableData → TreeData
any_tree table = record { kind = kind_of table.key; root = table.root }

-- it was checked, and has so much
abbrev pub IsAnyChecked : Pages → TableData → TreeCounts → Type 0
IsAnyChecked pages table counts = IsCheckedBy table.key pages table counts

-- a page, the order or a row of a table whose rows are found so has the condition that a fault says is broken
abbrev pub IsBrokenBy : RowKeyData → Pages → TableData → Fault → Type 0
IsBrokenBy (RowKeyData.Rowid place) pages table fault = IsBrokenTable pages table fault
IsBrokenBy (RowKeyData.Primary places) pages table fault = IsBrokenPrimary pages table fault

abbrev pub IsAnyBroken : Pages → TableData → Fault → Type 0
IsAnyBroken pages table fault = IsBrokenBy table.key pages table fault

-- a table whose rows are found so has these rows, in the order of its tree
abbrev pub HoldsRowsBy : RowKeyData → Pages → TableData → List Row → Type 0
HoldsRowsBy (RowKeyData.Rowid place) pages table rows = HoldsRows pages table rows
HoldsRowsBy (RowKeyData.Primary places) pages table rows = HoldsPrimaryRows pages table rows

abbrev pub HoldsAnyRows : Pages → TableData → List Row → Type 0
HoldsAnyRows pages table rows = HoldsRowsBy table.key pages table rows
