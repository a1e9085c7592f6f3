-- The index that a CREATE INDEX makes. (CREATE INDEX)
use Rattle.std.specs.Prelude.{◌≡◌, List, map}
use Rattle.std.specs.List.{AllZip}
use Rattle.sql_reader_grammar.specs.create_trees.CreateTrees.{IndexedColumnTree, IndexTree}
use Rattle.schema.specs.indexes.Condition.{IsIndexCondition}
use Rattle.schema.specs.indexes.IndexData.{IndexData, IndexedData}
use Rattle.schema_keys.specs.Created.{IsBinary}
use Rattle.schema.specs.indexes.Others.{others_of}
use Rattle.schema_keys.specs.Names.{AreDistinct, IsNameAt, IsSameName}
use Rattle.schema_tables.specs.TableData.{ColumnData, TableData}

-- a column of the table, whose texts are compared by their bytes (Indexed column)
pub record IsIndexed (columns : List ColumnData) (tree : IndexedColumnTree) (indexed : IndexedData) : Type 0 where
  pub place_is : IsNameAt (map (λ c. c.name) columns) tree.name indexed.place
  pub order_is : indexed.order ≡ tree.order
  pub binary : IsBinary tree.collation

-- the columns of an index on a table of these columns, none of them twice
pub record AreIndexed (columns : List ColumnData) (trees : List IndexedColumnTree) (indexed : List IndexedData) : Type 0 where
  pub each : AllZip (IsIndexed columns) trees indexed
  pub distinct : AreDistinct (map (λ c. c.name) trees)

-- an index of this text, on this table
pub record IsIndex (tree : IndexTree) (table : TableData) (index : IndexData) : Type 0 where
  pub name_is : index.name ≡ tree.name
  pub table_is : index.table ≡ tree.table
  pub owner_is : IsSameName tree.table table.name
  pub columns_are : AreIndexed table.columns tree.columns index.columns
  pub others_are : index.others ≡ others_of table.key index.columns
  pub unique_is : index.is_unique ≡ tree.is_unique
  pub condition_is : IsIndexCondition table tree.condition index.condition
