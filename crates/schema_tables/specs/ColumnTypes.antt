-- The types of the columns of tables.
use Rattle.std.specs.Prelude.{List, map}
use Rattle.values.specs.declared.value.Ty.{Ty}
use Rattle.schema_tables.specs.TableData.{TableData}

abbrev pub types_of : TableData → List Ty
types_of table = map (λ c. c.ty) table.columns

abbrev pub column_types : List TableData → List (List Ty)
column_types tables = map types_of tables
