-- The rows at the places of a set of three ranges.
use Rattle.std.specs.Prelude.{◌≡◌, ◌++◌, ℕ, Bool, List, filter, length, map, slice_range}
use Rattle.values.specs.Datum.{Datum}
use Rattle.values.specs.Row.{Row}
use Rattle.semantics.specs.Windows.{places, row_at}
use Rattle.windows.specs.declared.frames.ranges.Ranges.{Ranges}
use Rattle.windows.specs.frames.Ranges.{IsUnion}

-- the three slices of a list, one behind the other
abbrev pub slices : {X : Type 0} → Ranges → List X → List X
slices r xs = slice_range xs r.start r.from ++ (slice_range xs r.middle r.after ++ slice_range xs r.to r.end)

abbrev pub RowsAreSlices : Type 0
RowsAreSlices = (S : ℕ → Bool) (r : Ranges) (rows : List Row) → IsUnion S r (length rows) → map (row_at rows) (filter S (places rows)) ≡ slices r rows

-- the values of an expression on these rows are the same slices of its values on all
abbrev pub ValuesAreSlices : Type 0
ValuesAreSlices = (S : ℕ → Bool) (r : Ranges) (rows : List Row) (value : Row → Datum) → IsUnion S r (length rows)
    → map value (map (row_at rows) (filter S (places rows))) ≡ slices r (map value rows)
