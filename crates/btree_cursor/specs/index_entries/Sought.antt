-- What is sought in an index: the entries behind a cut of its columns. (Database File Format, section 2.3 "Representation
-- Of SQL Indices")
use Rattle.std.specs.Prelude.{Bool, List, map}
use Rattle.values.specs.Datum.{Datum, datum_of}
use Rattle.btree_cursor.specs.key_ranges.Ranges.{Cut, behind_values, is_before}
use Rattle.btree_cursor.specs.key_ranges.View.{cut}
use Rattle.btree_cursor.specs.declared.index_entries.columns.IndexKey.{IndexKey}

-- the cut that a key in memory stands for: an end of a range, behind the values of the first columns
abbrev pub sought : IndexKey → Cut
sought key = behind_values (map datum_of key.equal.now) (cut key.end)

-- an entry with these values comes before what is sought
abbrev pub comes_before : IndexKey → List Datum → Bool
comes_before key values = is_before key.descends.now (sought key) values
