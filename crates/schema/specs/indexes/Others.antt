-- What tells the rows of an index's entries, behind its columns. (Database File Format, "Suppression of redundant columns in WITHOUT
-- ROWID secondary indexes")
use Rattle.std.specs.Prelude.{Bool, not, ℕ, nat_eq, List, []}
use Rattle.std.specs.List.{filter, list_any}
use Rattle.schema_tables.specs.TableData.{RowKeyData}
use Rattle.schema.specs.indexes.IndexData.{IndexedData}

-- one of the columns stands at this place of the table
abbrev pub has_place : List IndexedData → ℕ → Bool
has_place columns place = list_any (λ c. nat_eq c.place place) columns

-- the places of the columns of the PRIMARY KEY that an index of these columns lacks, in the key's order, where rows are found by it;
-- where they have rowids, none
abbrev pub others_of : RowKeyData → List IndexedData → List ℕ
others_of (RowKeyData.Rowid place) columns = []
others_of (RowKeyData.Primary places) columns = filter (λ place. not (has_place columns place)) places
