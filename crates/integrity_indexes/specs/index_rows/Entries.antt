-- The columns of an index, and what its entries have behind them. (Database File Format, section 2.3 "Representation Of SQL
-- Indices", and "Suppression of redundant columns in WITHOUT ROWID secondary indexes")
use Rattle.std.specs.Prelude.{◌+◌, ◌++◌, ℕ, Contains, length}
use Rattle.schema_tables.specs.TableData.{RowKeyData}
use Rattle.integrity_trees.specs.wanted_entries.Wanted.{IndexedPlaces}
use Rattle.integrity_indexes.specs.declared.index_rows.index.TableIndex.{TableIndex}

abbrev pub indexed_by : TableIndex → IndexedPlaces
indexed_by index = record { columns = index.places.now; others = index.others.now }

-- how many values an entry has, of an index of a table whose rows are found so: those of the columns, and behind them the
-- rowid, or the rest of the PRIMARY KEY
abbrev pub width_by : RowKeyData → IndexedPlaces → ℕ
width_by (RowKeyData.Rowid place) index = length index.columns + 1
width_by (RowKeyData.Primary places) index = length index.columns + length index.others

-- An entry tells its row: the rowid stands in each, and of a table without rowids each column of the PRIMARY KEY.
abbrev pub TellsRow : RowKeyData → IndexedPlaces → Type 0
TellsRow (RowKeyData.Rowid place) index = Unit {0}
TellsRow (RowKeyData.Primary places) index = (place : ℕ) → Contains places place → Contains (index.columns ++ index.others) place
