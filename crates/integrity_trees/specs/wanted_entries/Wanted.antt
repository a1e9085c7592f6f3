-- The entries that an index has to have, of its table's rows. (Database File Format, section 2.3 "Representation Of SQL
-- Indices", and section 2.4 "Representation Of WITHOUT ROWID Tables"; Partial Indexes)
use Rattle.std.specs.Prelude.{ℕ, ℤ, Bool, ◌++◌, [], ◌∷◌, IsPermutation, List, map, slice_index_or, Option, Some, None}
use Rattle.std.specs.List.{filter}
use Rattle.values.specs.Datum.{null, int}
use Rattle.values.specs.Row.{Row}

-- a row of a table, and its rowid where the table has rowids
pub record KeyedRow : Type 0 where
  pub rowid : Option ℤ
  pub row : Row

-- The places of the indexed columns among the table's, and of a table without rowids the places of those columns of its
-- primary key that aren't indexed.
pub record IndexedPlaces : Type 0 where
  pub columns : List ℕ
  pub others : List ℕ

abbrev pub values_at : Row → List ℕ → Row
values_at row places = map (λ at. slice_index_or row at null) places

-- what tells an entry's row: its rowid, or the rest of its primary key
abbrev pub row_key : List ℕ → Option ℤ → Row → Row
row_key others (Some rowid) row = int rowid ∷ []
row_key others None row = values_at row others

abbrev pub entry_of : IndexedPlaces → KeyedRow → Row
entry_of index keyed = values_at keyed.row index.columns ++ row_key index.others keyed.rowid keyed.row

-- the entries that the rows want, of those that the index's condition keeps
abbrev pub wanted : IndexedPlaces → (Row → Bool) → List KeyedRow → List Row
wanted index keeps rows = map (entry_of index) (filter (λ keyed. keeps keyed.row) rows)

-- the entries aren't those that the rows want
abbrev pub IsDifferent : IndexedPlaces → (Row → Bool) → List KeyedRow → List Row → Type 0
IsDifferent index keeps rows entries = ¬ IsPermutation entries (wanted index keeps rows)
