-- What the program's ways to find rows are.
use Rattle.schema_tables.specs.TableData.{RowKeyData}
use Rattle.schema_tables.specs.declared.row_key.RowKey.{RowKey}
use Rattle.schema_tables.specs.declared.row_key.RowKey.TheVariants as k

abbrev pub row_key_of : RowKey → RowKeyData
row_key_of (k.Rowid place) = RowKeyData.Rowid place
row_key_of (k.Primary places) = RowKeyData.Primary places.items
