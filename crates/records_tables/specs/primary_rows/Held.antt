-- The rows that a table without rowids has. (Database File Format, section 2.4 "Representation Of WITHOUT ROWID Tables")
use Rattle.std.specs.Prelude.{List, [], map, slice_index_or}
use Rattle.std.specs.List.{AllZip}
use Rattle.values.specs.Datum.{Datum, null}
use Rattle.values.specs.Row.{Row}
use Rattle.btree.specs.declared.image.kind.TreeKind.TheVariants.{Index}
use Rattle.btree.specs.declared.image.kind.Level.{Level}
use Rattle.btree.specs.image.Pages.{Pages}
use Rattle.btree.specs.image.Tree.{ArePlacesOf, IsPageOf, Place}
use Rattle.btree_cursor.specs.index_entries.Entries.{HasValues}
use Rattle.btree_cursor.specs.key_ranges.Runs.{Ascend}
use Rattle.schema_tables.specs.TableData.{TableData}
use Rattle.records_tables.specs.primary_rows.Order.{key_order}
use Rattle.records_tables.specs.primary_rows.Rows.{IsPrimaryRow}

-- the entry at a place has these values, which are a record of this row of the table
pub record StoresPrimaryRow (pages : Pages) (table : TableData) (place : Place) (row : Row) : Type 0 where
  pub level : Level
  pub page : IsPageOf pages Index level place.page
  pub values : List Datum
  pub has : HasValues pages level place.page place.index values
  pub makes : IsPrimaryRow table values row

-- what a row has in the columns of the key, in the key's order
abbrev pub key_of_row : TableData → Row → Row
key_of_row table row = map (λ column. slice_index_or row column null) (key_order table)

-- The table has these rows, in the order of their keys: one for each entry of its tree. No two of them have one key.
pub record HoldsPrimaryRows (pages : Pages) (table : TableData) (rows : List Row) : Type 0 where
  pub places : List Place
  pub cells : ArePlacesOf pages Index table.root places
  pub rows_are : AllZip (StoresPrimaryRow pages table) places rows
  pub ascend : Ascend [] (map (key_of_row table) rows)
