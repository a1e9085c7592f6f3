-- What the program's indexes are.
use Rattle.std.specs.Prelude.{option_map, string_bytes}
use Rattle.expr.specs.View.{term}
use Rattle.schema.specs.indexes.IndexData.{IndexData}
use Rattle.schema.specs.declared.indexes.index_parts.Index.{Index}

abbrev pub index_data : Index → IndexData
index_data i = record {
  name = string_bytes i.name;
  table = string_bytes i.table;
  root = i.root;
  columns = i.columns.items;
  others = i.others.items;
  is_unique = i.is_unique;
  condition = option_map term i.condition;
}
