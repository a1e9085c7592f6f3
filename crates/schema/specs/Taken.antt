-- The names of tables and indexes.
use Rattle.std.specs.Prelude.{◌≡◌, List}
use Rattle.std.specs.List.{Any}
use Rattle.values.specs.Row.{Row}
use Rattle.schema_keys.specs.Names.{IsSameName}
use Rattle.sql_reader_syntax.specs.Tree.{Name}
use Rattle.schema.specs.Objects.{ObjectData, object_row}
use Rattle.schema.specs.Says.{HasTree}

-- a row is that of a table or an index of this name
pub record HasName (row : Row) (name : Name) : Type 0 where
  pub object : ObjectData
  pub row_is : row ≡ object_row object
  pub has_tree : HasTree object.kind
  pub name_is : name ≡ object.name

-- the same of a name in letters of either case
pub record TakesName (name : Name) (row : Row) : Type 0 where
  pub object : ObjectData
  pub row_is : row ≡ object_row object
  pub has_tree : HasTree object.kind
  pub same : IsSameName object.name name

-- a row is that of a table or an index whose name one of these rows has
pub record RepeatsName (before : List Row) (row : Row) : Type 0 where
  pub name : Name
  pub named : HasName row name
  pub taken : Any (TakesName name) before
