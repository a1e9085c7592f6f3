-- A worked range: `qty < 40` over the index of a column with the values 40, NULL, 7 and 7 in the rows 1 to 4.
use Rattle.std.specs.Prelude.{◌≡◌, pos, Bool, true, ℕ, List, [], ◌∷◌, Some, None}
use Rattle.std.specs.List.{filter}
use Rattle.values.specs.Datum.{Datum, null, int}
use Rattle.btree_cursor.specs.key_ranges.Ranges.{Range, from_cut, is_within, meets, to_cut}

abbrev pub below_40 : Range
below_40 = record { equal = []; lower = None; upper = Some (record { value = int (pos 40); strict = true }) }

-- the value of an entry, then the rowid
abbrev pub entry : ℕ → ℕ → List Datum
entry value rowid = int (pos value) ∷ int (pos rowid) ∷ []

abbrev pub null_entry : ℕ → List Datum
null_entry rowid = null ∷ int (pos rowid) ∷ []

abbrev pub ascending : List (List Datum)
ascending = null_entry 2 ∷ entry 7 3 ∷ entry 7 4 ∷ entry 40 1 ∷ []

abbrev pub descending : List (List Datum)
descending = entry 40 1 ∷ entry 7 3 ∷ entry 7 4 ∷ null_entry 2 ∷ []

abbrev pub given : List Bool → List (List Datum) → List (List Datum)
given descends = filter (is_within descends (from_cut descends below_40) (to_cut descends below_40))

abbrev pub WorkedRanges : Type 0
WorkedRanges =
    (given [] ascending ≡ entry 7 3 ∷ entry 7 4 ∷ [])
    × (given (true ∷ []) descending ≡ entry 7 3 ∷ entry 7 4 ∷ [])
    × (filter (meets [] None below_40.upper) ascending ≡ entry 7 3 ∷ entry 7 4 ∷ [])
