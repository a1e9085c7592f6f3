-- What the program's catalogs are.
use Rattle.std.specs.Prelude.{map}
use Rattle.schema.specs.indexes.IndexView.{index_data}
use Rattle.schema.specs.CatalogData.{CatalogData}
use Rattle.schema.specs.declared.whole.Catalog.{Catalog}

abbrev pub catalog_data : Catalog → CatalogData
catalog_data c = record { tables = c.tables.items; indexes = map index_data c.indexes.items }
