-- What is known of a sequence for a function. (Window Functions, "Built-in Window Functions")
use Rattle.std.specs.Prelude.{◌≡◌, ◌+◌, ◌-◌, ℕ, pos, nat_le, nat_lt, if◌then◌else◌, List, filter, length, map, Option, Some}
use Rattle.values.specs.Datum.{Datum, datum_of}
use Rattle.values.specs.Row.{Row}
use Rattle.expr.specs.operations.Operations.{settle}
use Rattle.semantics.specs.Query.{Direction, Frame, WindowFunction}
use Rattle.semantics.specs.Sequence.{value_at}
use Rattle.semantics.specs.Valuation.{Valuation}
use Rattle.semantics.specs.Windows.{bucket, earlier, in_frame, peer_group, places, row_at}
use Rattle.windows.specs.window_results.Framed.{FramedData, aggregate, first_value, framed_of, last_value, nth_value, over_values}
use Rattle.windows.specs.declared.window_results.computed.Computed.{Computed}
use Rattle.windows.specs.declared.window_results.computed.Computed.TheVariants as variants
use Rattle.windows.specs.declared.window_results.computed.Shifted.{Shifted}

-- the values along a sequence of which each row gets that of another, and what stands where there is no such row
pub record ShiftedData : Type 0 where
  pub values : List Datum
  pub count : ℕ
  pub otherwise : List Datum

pub data Known : Type 0 where
  over_frame : FramedData → Known
  row_number rank dense_rank : Known
  ntile : ℕ → Known
  lag lead : ShiftedData → Known

abbrev pub shifted_of : Shifted → ShiftedData
shifted_of s = record { values = map datum_of s.values.items; count = s.count; otherwise = map datum_of s.otherwise.items }

abbrev pub known_of : Computed → Known
known_of (variants.OverFrame framed) = over_frame (framed_of framed)
known_of variants.RowNumber = row_number
known_of variants.Rank = rank
known_of variants.DenseRank = dense_rank
known_of (variants.NTile n) = ntile n
known_of (variants.Lag shifted) = lag (shifted_of shifted)
known_of (variants.Lead shifted) = lead (shifted_of shifted)

-- of a function and the rows of a sequence: the values of its arguments on each
abbrev pub known_for : Valuation → WindowFunction → List Row → Known
known_for value (WindowFunction.aggregate a) rows = over_frame (record { function = aggregate a.function; values = map (value a.argument) rows })
known_for value WindowFunction.row_number rows = row_number
known_for value WindowFunction.rank rows = rank
known_for value WindowFunction.dense_rank rows = dense_rank
known_for value (WindowFunction.ntile n) rows = ntile n
known_for value (WindowFunction.lag x n otherwise) rows = lag (record { values = map (value x) rows; count = n; otherwise = map (value otherwise) rows })
known_for value (WindowFunction.lead x n otherwise) rows = lead (record { values = map (value x) rows; count = n; otherwise = map (value otherwise) rows })
known_for value (WindowFunction.first_value x) rows = over_frame (record { function = first_value; values = map (value x) rows })
known_for value (WindowFunction.last_value x) rows = over_frame (record { function = last_value; values = map (value x) rows })
known_for value (WindowFunction.nth_value x n) rows = over_frame (record { function = nth_value n; values = map (value x) rows })

-- there is a value for each of so many rows
abbrev pub IsAsLong : ℕ → Known → Type 0
IsAsLong size (over_frame framed) = length framed.values ≡ size
IsAsLong size row_number = Unit {0}
IsAsLong size rank = Unit {0}
IsAsLong size dense_rank = Unit {0}
IsAsLong size (ntile n) = Unit {0}
IsAsLong size (lag shifted) = (length shifted.values ≡ size) × (length shifted.otherwise ≡ size)
IsAsLong size (lead shifted) = (length shifted.values ≡ size) × (length shifted.otherwise ≡ size)

-- the values at the places of a frame
abbrev pub frame_values : List Direction → Frame → List Row → ℕ → List Datum → List Datum
frame_values ds frame keys here values = map (value_at values) (filter (in_frame ds frame keys here) (places keys))

-- the value at a place; `keys` are the values of the window's ORDER BY, of each row of the sequence
abbrev pub known_result : Option Datum → List Direction → Frame → List Row → Known → ℕ → Option Datum
known_result o ds frame keys (over_frame framed) here = over_values o framed.function (frame_values ds frame keys here framed.values)
known_result o ds frame keys row_number here = settle o (pos (here + 1))
known_result o ds frame keys rank here = settle o (pos (length (earlier ds keys (row_at keys here)) + 1))
known_result o ds frame keys dense_rank here = settle o (pos (peer_group ds keys here + 1))
known_result o ds frame keys (ntile n) here = settle o (pos (bucket n (length keys) here + 1))
known_result o ds frame keys (lag s) here = Some (if nat_le s.count here then value_at s.values (here - s.count) else value_at s.otherwise here)
known_result o ds frame keys (lead s) here =
    Some (if nat_lt (here + s.count) (length keys) then value_at s.values (here + s.count) else value_at s.otherwise here)
