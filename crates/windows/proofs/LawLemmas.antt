-- Rows with the columns of calls behind them.
use Rattle.std.proofs.Common.{◌≡◌, ◌∙◌, ◌<◌, ◌++◌, ℕ, List, [], ◌∷◌, get_or, length, map, refl, sym, ap, arith}
use Rattle.std.proofs.lemmas.List.{get_or-map}
use Rattle.values.specs.Datum.{Datum, null}
use Rattle.values.specs.Row.{Row}
use Rattle.expr.specs.Meaning.{eval}
use Rattle.semantics.specs.Query.{WindowCall}
use Rattle.semantics.specs.Sequence.{value_at}
use Rattle.semantics.specs.Windows.{call_value, numbered}
use Rattle.windows.specs.Wanted.{ColumnsAreWindowed, column_of}
use Rattle.windows.proofs.NumberedLemmas.{length-numbered_after, numbered_at}

at_place : (w : Datum) (rows : List Row) (i : ℕ) → i < length (numbered rows) → (calls : List WindowCall)
    → map (call_value (eval w) w rows (get_or (numbered rows) i ([], 0))) calls ≡ map (λ column. value_at column i) (map (column_of w rows) calls)
at_place w rows i inside [] = refl
at_place w rows i inside (call ∷ calls) =
    let first = get_or-map (λ (r : Row × ℕ). call_value (eval w) w rows r call) (numbered rows) i ([], 0) null inside in
    let here = sym first in
    (λ j. here j ∷ at_place w rows i inside calls j)

pub columns_are_windowed : ColumnsAreWindowed
columns_are_windowed w calls rows i h =
    let all = length-numbered_after [] rows in
    let inside : i < length (numbered rows) = omega (arith, h, all) in
    let r = get_or (numbered rows) i ([], 0) in
    let row = ap (λ (r : Row × ℕ). r.0) (numbered_at rows i ([], 0) h) in
    get_or-map (λ (r : Row × ℕ). r.0 ++ map (call_value (eval w) w rows r) calls) (numbered rows) i ([], 0) [] inside
    ∙ (λ j. row j ++ at_place w rows i inside calls j)
