-- What is known of the objects of an image.
use Rattle.std.specs.Prelude.{List}
use Rattle.schema.specs.indexes.IndexData.{IndexData}
use Rattle.schema_tables.specs.TableData.{TableData}

-- the tables and the indexes of an image, in the order of the schema's rows
pub record CatalogData : Type 0 where
  pub tables : List TableData
  pub indexes : List IndexData
