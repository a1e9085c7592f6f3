-- Which entries a range lets through. (Datatypes In SQLite, "Comparison Expressions")
use Rattle.std.specs.Prelude.{◌≡◌, ℕ, Bool, true, false, ◌||◌, if◌then◌else◌, List, Option, None, Some}
use Rattle.std.specs.declared.cmp.Ordering.{Ordering}
use Rattle.values.specs.Datum.{Datum}
use Rattle.values.specs.Order.{datum_cmp}
use Rattle.records.specs.Record.{IsRecord}
use Rattle.btree_cursor.specs.key_ranges.Ranges.{Range, is_null, meets}

-- how two values compare: not at all where one of them is NULL
abbrev pub compared : Datum → Datum → Option Ordering
compared a b = if is_null a || is_null b then None else Some (datum_cmp a b)

-- an entry with these values meets a range
abbrev pub meets_range : Range → List Datum → Bool
meets_range range values = meets range.equal range.lower range.upper values

-- the bytes of a record of these values are given where they meet a range, and none where they don't
abbrev pub GivesBytes : Range → List Datum → Option (List ℕ) → Type 0
GivesBytes range values None = meets_range range values ≡ false
GivesBytes range values (Some bytes) = (meets_range range values ≡ true) × IsRecord bytes values
