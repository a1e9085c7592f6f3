-- Columns of kept rows, and the rows behind a place.
use Rattle.std.proofs.Common.{◌≡◌, ◌∙◌, ◌<◌, ◌+◌, ℕ, zero, suc, List, [], ◌∷◌, ◌++◌, add-one, append_assoc, drop, get_or, length, map, slice_get, take, Some, Vec, Global, sym, ap}
use Rattle.std.proofs.lemmas.List.{map_push, take_more}
use Rattle.std.proofs.lemmas.Option.{same_Some}
use Rattle.values.specs.Datum.{Datum, datum_of}
use Rattle.values.specs.Row.{Row, rows_data}
use Rattle.values.specs.declared.value.Value.{Value}
use Rattle.semantics.specs.OneTable.{shown}
use Rattle.semantics.specs.Sequence.{value_at}

-- one column more
pub shown_more : (whole : Row) (columns : List ℕ) (i : ℕ) (front here there : Row) (d : Datum) → i < length columns
    → d ≡ value_at whole (get_or columns i 0) → here ≡ front ++ shown (take i columns) whole → there ≡ here ++ d ∷ []
    → there ≡ front ++ shown (take (i + 1) columns) whole
shown_more whole columns i front here there d within at before is =
    is
    ∙ (λ k. before k ++ at k ∷ [])
    ∙ append_assoc front (shown (take i columns) whole) (value_at whole (get_or columns i 0) ∷ [])
    ∙ ap (λ t. front ++ t)
    (sym (map_push (value_at whole) (take i columns) (get_or columns i 0)) ∙ sym (ap (map (value_at whole)) (take_more columns i 0 within)))

after_row : (rows : List (Vec Value Global)) (at : ℕ) (row : Vec Value Global) → slice_get rows at ≡ Some row
    → drop at (rows_data rows) ≡ map datum_of row.items ∷ drop (suc at) (rows_data rows)
after_row [] at row found = absurd cc
after_row (here ∷ rows) zero row found = ap (λ (r : Vec Value Global). map datum_of r.items ∷ rows_data rows) (same_Some here row found)
after_row (here ∷ rows) (suc at) row found = after_row rows at row found

-- the row at a place, and those behind it
pub row_at : (rows : List (Vec Value Global)) (at : ℕ) (row : Vec Value Global) → slice_get rows at ≡ Some row
    → drop at (rows_data rows) ≡ map datum_of row.items ∷ drop (at + 1) (rows_data rows)
row_at rows at row found = rw add-one (after_row rows at row found)
