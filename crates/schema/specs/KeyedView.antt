-- What the program's tables with the indexes that their keys want are.
use Rattle.std.specs.Prelude.{map}
use Rattle.schema.specs.indexes.KeyIndexView.{key_index_data}
use Rattle.schema.specs.Keyed.{KeyedData}
use Rattle.schema.specs.declared.keyed.KeyedTable.{KeyedTable}

abbrev pub keyed_data : KeyedTable → KeyedData
keyed_data k = record { table = k.table; wanted = map key_index_data k.wanted.items }
