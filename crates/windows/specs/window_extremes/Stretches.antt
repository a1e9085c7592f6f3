-- The first of the values in stretches of a sequence. (Built-in Aggregate Functions)
use Rattle.std.specs.Prelude.{◌≡◌, ◌+◌, ◌<◌, ◌^◌, ◌&&◌, ◌||◌, ℕ, nat_le, nat_lt, Bool, List, [], Option, None, length, slice_index_or}
use Rattle.values.specs.Datum.{Datum}
use Rattle.semantics.specs.Query.{AggregateFunction}
use Rattle.windows.specs.declared.frames.ranges.Ranges.{Ranges}
use Rattle.windows.specs.first_values.Best.{IsBest}
use Rattle.windows.specs.declared.first_values.best.Side.{Side}
use Rattle.windows.specs.declared.first_values.best.Side.TheVariants as sides

abbrev pub function_of : Side → AggregateFunction
function_of sides.Least = AggregateFunction.min
function_of sides.Greatest = AggregateFunction.max

-- the places from one up to another
abbrev pub stretch : ℕ → ℕ → ℕ → Bool
stretch from to place = nat_le from place && nat_lt place to

abbrev pub in_ranges : Ranges → ℕ → Bool
in_ranges r place = stretch r.start r.from place || (stretch r.middle r.after place || stretch r.to r.end place)

-- of each place, the first of the values of the stretch of one width that begins there
pub record IsLevel (side : Side) (xs : List Datum) (width : ℕ) (level : List (Option ℕ)) : Type 0 where
  pub size : length level ≡ length xs
  pub each : (i : ℕ) → i < length xs → IsBest side xs (stretch i (i + width)) (slice_index_or level i None)

-- a level for each power of two up to the greatest that the list has room for
pub record AreLevels (side : Side) (xs : List Datum) (levels : List (List (Option ℕ))) : Type 0 where
  pub each : (k : ℕ) → k < length levels → IsLevel side xs (2 ^ k) (slice_index_or levels k [])
  pub enough : length xs < 2 ^ length levels
