-- Rows with the values behind them that stand at their places in columns.
use Rattle.std.proofs.Common.{◌≡◌, ◌∙◌, ◌+◌, ◌<◌, ◌++◌, ℕ, zero, suc, List, [], ◌∷◌, length, map, refl, sym, ap, arith}
use Rattle.std.proofs.lemmas.List.{ext_get_or, length-map}
use Rattle.values.specs.Datum.{Datum}
use Rattle.values.specs.Row.{Row}
use Rattle.expr.specs.Meaning.{eval}
use Rattle.semantics.specs.Query.{WindowCall}
use Rattle.semantics.specs.Sequence.{value_at}
use Rattle.semantics.specs.Windows.{call_value, numbered, row_at, windowed}
use Rattle.windows.specs.Wanted.{column_of}
use Rattle.windows.proofs.LawLemmas.{columns_are_windowed}
use Rattle.windows.proofs.NumberedLemmas.{length-numbered_after}

abbrev pub values_at : List (List Datum) → ℕ → Row
values_at columns at = map (λ column. value_at column at) columns

-- from a place on
abbrev pub behind : List (List Datum) → ℕ → List Row → List Row
behind columns from [] = []
behind columns from (row ∷ rows) = (row ++ values_at columns from) ∷ behind columns (suc from) rows

length-behind : (columns : List (List Datum)) (from : ℕ) (rows : List Row) → length (behind columns from rows) ≡ length rows
length-behind columns from [] = refl
length-behind columns from (row ∷ rows) = ap suc (length-behind columns (suc from) rows)

pub behind_more : (columns : List (List Datum)) (from : ℕ) (rows : List Row) (row : Row)
    → behind columns from (rows ++ row ∷ []) ≡ behind columns from rows ++ (row ++ values_at columns (from + length rows)) ∷ []
behind_more columns from [] row = let here : from ≡ from + 0 = omega arith in ap (λ at. (row ++ values_at columns at) ∷ []) here
behind_more columns from (r ∷ rows) row =
    let there : suc from + length rows ≡ from + suc (length rows) = omega arith in
    ap (λ rest. (r ++ values_at columns from) ∷ rest)
    (behind_more columns (suc from) rows row ∙ ap (λ at. behind columns (suc from) rows ++ (row ++ values_at columns at) ∷ []) there)

behind_at : (columns : List (List Datum)) (from : ℕ) (rows : List Row) (i : ℕ) → i < length rows
    → row_at (behind columns from rows) i ≡ row_at rows i ++ values_at columns (from + i)
behind_at columns from [] i within = absurd (omega (arith, within))
behind_at columns from (r ∷ rows) zero within = let here : from ≡ from + 0 = omega arith in ap (λ at. r ++ values_at columns at) here
behind_at columns from (r ∷ rows) (suc i) within =
    let there : suc from + i ≡ from + suc i = omega arith in
    behind_at columns (suc from) rows i (omega (arith, within)) ∙ ap (λ at. row_at rows i ++ values_at columns at) there

-- of the columns of calls these are the rows of windows
pub behind_windowed : (w : Datum) (calls : List WindowCall) (rows : List Row) → behind (map (column_of w rows) calls) 0 rows ≡ windowed (eval w) w calls rows
behind_windowed w calls rows =
    let columns = map (column_of w rows) calls in
    let all = length-numbered_after [] rows in
    let made = length-map (numbered rows) (λ (r : Row × ℕ). r.0 ++ map (call_value (eval w) w rows r) calls) in
    let long = length-behind columns 0 rows in
    ext_get_or [] (behind columns 0 rows) (windowed (eval w) w calls rows) (omega (arith, all, made, long))
    (λ i within.
    let inside : i < length rows = omega (arith, within, long) in
    let here : 0 + i ≡ i = omega arith in
    behind_at columns 0 rows i inside ∙ ap (λ at. row_at rows i ++ values_at columns at) here ∙ sym (columns_are_windowed w calls rows i inside))

-- how many rows were put
pub as_many : (columns : List (List Datum)) (from : ℕ) {X Y : Type 0} (f : X → Row) (g : Y → Row) (whole : List X) (rows : List Y)
    → map f whole ≡ behind columns from (map g rows) → length whole ≡ length rows
as_many columns from f g whole rows same =
    let sizes = ap length same in
    let left = length-map whole f in
    let right = length-map rows g in
    let long = length-behind columns from (map g rows) in
    omega (arith, sizes, left, right, long)
