-- What is counted of the keys of tables. (Database File Format, section 2.4 "Representation Of WITHOUT ROWID Tables")
use Rattle.std.specs.Prelude.{◌≡◌, [], length}
use Rattle.btree.specs.image.Pages.{Pages}
use Rattle.schema_tables.specs.TableData.{RowKeyData, TableData}
use Rattle.records_tables.specs.primary_rows.Order.{key_order}
use Rattle.integrity.specs.declared.keys.KeyCounts.{KeyCounts}
use Rattle.integrity.specs.Indexes.{HasDistinct}

-- So many different values stand in the first columns of the key of a table whose rows are found so, where its tree is an index,
-- the entries of which begin with the key; of rowids, each of which stands once, nothing is counted.
abbrev pub HasKeyBy : RowKeyData → Pages → TableData → KeyCounts → Type 0
HasKeyBy (RowKeyData.Rowid place) pages table counts = counts.distinct.items ≡ []
HasKeyBy (RowKeyData.Primary places) pages table counts = HasDistinct pages table.root (length (key_order table)) counts.distinct.items

abbrev pub HasKeyCounts : Pages → TableData → KeyCounts → Type 0
HasKeyCounts pages table counts = HasKeyBy table.key pages table counts
