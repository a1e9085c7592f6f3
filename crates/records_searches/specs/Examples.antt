-- Rows of CREATE TABLE item(id INTEGER PRIMARY KEY, qty INT) STRICT, as an index of `qty` lists them, ascending and descending.
use Rattle.std.specs.Prelude.{Bool, ℕ, pos, List, [], ◌∷◌, map, Option, None, Some}
use Rattle.values.specs.Datum.{Datum, null, int}
use Rattle.values.specs.Row.{Row}
use Rattle.btree_cursor.specs.key_ranges.Ranges.{Edge, Range}
use Rattle.records_searches.specs.Coming.{run_of}
use Rattle.records_searches.specs.Entries.{EntryData, entries_in}

-- the entry of the row with this rowid
abbrev pub entry : Datum → ℕ → EntryData
entry qty rowid = record { values = qty ∷ int (pos rowid) ∷ []; row = int (pos rowid) ∷ qty ∷ [] }

abbrev pub ascending : List EntryData
ascending = entry null 2 ∷ entry (int (pos 7)) 3 ∷ entry (int (pos 7)) 4 ∷ entry (int (pos 40)) 1 ∷ []

abbrev pub descending : List EntryData
descending = entry (int (pos 40)) 1 ∷ entry (int (pos 7)) 3 ∷ entry (int (pos 7)) 4 ∷ entry null 2 ∷ []

-- a bound of this number
abbrev pub bound : Bool → ℕ → Option Edge
bound strict n = Some (record { value = int (pos n); strict = strict })

-- `qty > lower AND qty < upper`, or with one of both alone
abbrev pub between : Option Edge → Option Edge → Range
between lower upper = record { equal = []; lower = lower; upper = upper }

-- `qty = value`
abbrev pub equal_to : Datum → Range
equal_to value = record { equal = value ∷ []; lower = None; upper = None }

-- the rows of the entries that meet a range
abbrev pub rows_in : Range → List EntryData → List Row
rows_in range entries = map (λ entry. entry.row) (entries_in range entries)

-- those that a search meets before the first that doesn't
abbrev pub rows_of_run : Range → List EntryData → List Row
rows_of_run range entries = map (λ entry. entry.row) (run_of range entries)

abbrev pub row : Datum → ℕ → Row
row qty rowid = int (pos rowid) ∷ qty ∷ []
