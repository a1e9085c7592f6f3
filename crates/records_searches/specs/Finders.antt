-- How an entry of an index leads to its row. (Database File Format, section 2.3 "Representation Of SQL Indices", and section 2.4
-- "Suppression of redundant columns in WITHOUT ROWID secondary indexes")
use Rattle.std.specs.Prelude.{◌≡◌, ℕ, ℤ, ◌++◌, List, [], ◌∷◌, length, map}
use Rattle.values.specs.Datum.{int}
use Rattle.values.specs.Row.{Row}
use Rattle.schema_tables.specs.TableData.{RowKeyData}
use Rattle.records_tables.specs.primary_rows.Firsts.{firsts, place_of}
use Rattle.records_searches.specs.Entries.{values_at}
use Rattle.records_searches.specs.declared.finders.RowFinder.{RowFinder}
use Rattle.records_searches.specs.declared.finders.RowFinder.TheVariants as by

-- An entry has the values of the index's columns, and after them the rowid; or, of a table without rowids, the values of the other
-- columns of the PRIMARY KEY.
abbrev pub rowid_entry : List ℕ → ℤ → Row → Row
rowid_entry columns rowid row = values_at row columns ++ int rowid ∷ []

abbrev pub key_entry : List ℕ → List ℕ → Row → Row
key_entry columns others row = values_at row columns ++ values_at row others

-- where such an entry has the rowid, or each column of the PRIMARY KEY
abbrev pub IsFinderBy : RowKeyData → List ℕ → List ℕ → RowFinder → Type 0
IsFinderBy (RowKeyData.Rowid place) columns others finder = finder ≡ by.Rowid (length columns)
IsFinderBy (RowKeyData.Primary places) columns others (by.Rowid at) = ⊥
IsFinderBy (RowKeyData.Primary places) columns others (by.Key ats) = ats.items ≡ map (place_of (columns ++ others)) (firsts [] places)
