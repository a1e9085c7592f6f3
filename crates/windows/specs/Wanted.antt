-- The value of a call on each row that is given. (Window Functions)
use Rattle.std.specs.Prelude.{◌≡◌, ◌<◌, ◌++◌, length, ◌⊎◌, ℕ, Any, List, [], map, slice_index_or, Option}
use Rattle.values.specs.Datum.{Datum}
use Rattle.values.specs.Row.{Row}
use Rattle.expr.specs.Meaning.{Overflows, eval}
use Rattle.semantics.specs.Hits.{CallLeaves, call_terms}
use Rattle.semantics.specs.Query.{WindowCall}
use Rattle.semantics.specs.Sequence.{value_at}
use Rattle.semantics.specs.Windows.{call_result, call_value, numbered, row_at, windowed}

-- on the row of a number; `w` stands for results out of range within expressions, and `o` for the number itself
abbrev pub wanted : Datum → Option Datum → WindowCall → List Row → ℕ → Option Datum
wanted w o call rows i = call_result (eval w) o call rows (slice_index_or (numbered rows) i ([], 0))

-- its values on all rows, as `windowed` puts them behind the rows
abbrev pub column_of : Datum → List Row → WindowCall → List Datum
column_of w rows call = map (λ r. call_value (eval w) w rows r call) (numbered rows)

-- an expression of the call reaches an operation out of range on one of these rows, or its number leaves 64 bits on one of those
-- that are given
abbrev pub IsReachedBy : WindowCall → List Row → Type 0
IsReachedBy call rows = Any (λ row. Any (λ t. Overflows t row) (call_terms call)) rows ⊎ ((w : Datum) → CallLeaves (eval w) rows call)

-- the rows with the values of calls behind them, from the columns of the calls
abbrev pub ColumnsAreWindowed : Type 0
ColumnsAreWindowed = (w : Datum) (calls : List WindowCall) (rows : List Row) (i : ℕ) → i < length rows
    → row_at (windowed (eval w) w calls rows) i ≡ row_at rows i ++ map (λ column. value_at column i) (map (column_of w rows) calls)
