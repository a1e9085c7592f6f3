-- The indexes that the keys of tables want, and their rows. (CREATE TABLE, "UNIQUE constraints"; The Schema Table)
use Rattle.std.specs.Prelude.{◌≡◌, ℕ, Contains, List, None}
use Rattle.std.specs.List.{Any}
use Rattle.values.specs.Row.{Row}
use Rattle.schema_keys.specs.declared_keys.Keys.{keys_of}
use Rattle.schema_keys.specs.Names.{IsSameName}
use Rattle.schema_keys.specs.Rows.{SaysTable}
use Rattle.schema_tables.specs.TableData.{TableData}
use Rattle.sql_reader_syntax.specs.Tree.{Name}
use Rattle.schema_keys.specs.table_keys.Automatic.{AutomaticData, WantIndexes}
use Rattle.schema.specs.Objects.{ObjectData, object_row}
use Rattle.schema.specs.declared.objects.Kind.TheVariants as k

-- a row is that of a table, one of whose keys wants this index
pub record WantsIndex (pages : ℕ) (row : Row) (table : TableData) (automatic : AutomaticData) : Type 0 where
  pub says : SaysTable pages row table
  pub wanted : List AutomaticData
  pub want : WantIndexes says.tree 1 (keys_of says.tree) wanted
  pub among : Contains wanted automatic

-- a row is that of an index of this name without a text, on a table of this name
pub record IsKeyRow (table name : Name) (row : Row) : Type 0 where
  pub object : ObjectData
  pub row_is : row ≡ object_row object
  pub kind_is : object.kind ≡ k.Index
  pub sql_is : object.sql ≡ None
  pub owner_is : IsSameName object.owner table
  pub name_is : IsSameName object.name name

-- one of the rows is
abbrev pub HasKeyRow : List Row → Name → Name → Type 0
HasKeyRow rows table name = Any (IsKeyRow table name) rows
