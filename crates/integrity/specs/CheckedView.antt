-- What the program's findings are.
use Rattle.schema.specs.CatalogView.{catalog_data}
use Rattle.integrity.specs.Checked.{CheckedData}
use Rattle.integrity.specs.declared.checked.Checked.{Checked}

abbrev pub checked_data : Checked → CheckedData
checked_data c = record {
  schema_tree = c.schema_tree;
  tables = (catalog_data c.catalog).tables;
  trees = c.trees.items;
  key_counts = c.key_counts.items;
  indexes = (catalog_data c.catalog).indexes;
  index_counts = c.index_counts.items;
}
