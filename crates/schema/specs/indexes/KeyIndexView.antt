-- What the program's indexes for keys are.
use Rattle.std.specs.Prelude.{string_bytes}
use Rattle.schema.specs.indexes.KeyIndexes.{KeyIndexData}
use Rattle.schema.specs.declared.indexes.key_indexes.KeyIndex.{KeyIndex}

abbrev pub key_index_data : KeyIndex → KeyIndexData
key_index_data i = record { name = string_bytes i.name; columns = i.columns.items; others = i.others.items }
