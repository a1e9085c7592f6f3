-- The tables that an image denotes. (Database File Format, section 2; The Schema Table)
use Rattle.std.specs.Prelude.{ℕ, All, List}
use Rattle.std.specs.List.{AllZip}
use Rattle.btree.specs.image.Pages.{pages_of, Pages}
use Rattle.values.specs.Row.{Row}
use Rattle.values.specs.Database.{Database}
use Rattle.schema_tables.specs.TableData.{TableData, schema_table}
use Rattle.schema.specs.indexes.IndexData.{IndexData}
use Rattle.schema.specs.CatalogData.{CatalogData}
use Rattle.schema.specs.Says.{IsCatalog}
use Rattle.records_tables.specs.stored_rows.Stored.{Fits, HoldsRows}
use Rattle.records_tables.specs.Tables.{IsAnyStored}
use Rattle.integrity.specs.Tables.{HoldsAnyRows}

-- the schema's own table has these rows, whose values are of its columns, and they say this catalog
pub record HasCatalog (pages : Pages) (rows : List Row) (catalog : CatalogData) : Type 0 where
  pub stored : HoldsRows pages schema_table rows
  pub fit : All (Fits schema_table) rows
  pub says : IsCatalog pages.count rows catalog

-- the image has these tables, and each of them these rows, whose values are of their columns
pub record Denotes (image : List ℕ) (tables : List TableData) (db : Database) : Type 0 where
  pub indexes : List IndexData
  pub catalog : HasCatalog (pages_of image) db.schema (record { tables = tables; indexes = indexes })
  pub rows : AllZip (HoldsAnyRows (pages_of image)) tables db.tables
  pub fit : AllZip (λ table. All (Fits table)) tables db.tables

-- the tables of the pages, each with its rows; the schema's own table is stored as they are
pub record HasTables (pages : Pages) (tables : List TableData) : Type 0 where
  pub schema : List Row
  pub indexes : List IndexData
  pub catalog : HasCatalog pages schema (record { tables = tables; indexes = indexes })
  pub own : IsAnyStored pages schema_table
  pub stored : All (IsAnyStored pages) tables
