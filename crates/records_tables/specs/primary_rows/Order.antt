-- In which order the record of a row has the values of a table's columns, where the rows are found by the PRIMARY KEY. (Database
-- File Format, section 2.4 "Representation Of WITHOUT ROWID Tables")
use Rattle.std.specs.Prelude.{◌≡◌, ℕ, List, [], ◌++◌, length, map}
use Rattle.std.specs.List.{range_with_len}
use Rattle.schema_tables.specs.TableData.{RowKeyData, TableData}
use Rattle.records_tables.specs.declared.primary_rows.order.RecordOrder.{RecordOrder}
use Rattle.records_tables.specs.primary_rows.Firsts.{firsts, place_of}

-- the places of the columns of the PRIMARY KEY, in the key's order
abbrev pub primary_of : RowKeyData → List ℕ
primary_of (RowKeyData.Rowid place) = []
primary_of (RowKeyData.Primary places) = places

-- the columns of the key: one that the key names twice is stored once
abbrev pub key_order : TableData → List ℕ
key_order table = firsts [] (primary_of table.key)

-- the columns of the record: those of the key, and behind them the others in the order of the table
abbrev pub record_order : TableData → List ℕ
record_order table = firsts [] (primary_of table.key ++ range_with_len 0 (length table.columns))

-- where the record has each of the table's columns
abbrev pub record_places : TableData → List ℕ
record_places table = map (place_of (record_order table)) (range_with_len 0 (length table.columns))

-- this is told of the record of a row of a table
pub record IsOrderOf (table : TableData) (order : RecordOrder) : Type 0 where
  pub key_is : order.key ≡ length (key_order table)
  pub most_is : order.most ≡ length (record_order table)
  pub places_are : order.places.items ≡ record_places table
