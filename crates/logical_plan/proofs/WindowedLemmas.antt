-- The rows of a plan of windows.
use Rattle.std.proofs.Common.{◌≡◌, ◌++◌, ℕ, List, [], ◌∷◌, length, map, refl}
use Rattle.std.specs.List.{AllZip}
use Rattle.std.proofs.lemmas.List.{length-map}
use Rattle.values.specs.Row.{Row}
use Rattle.expr.specs.Meaning.{eval}
use Rattle.semantics.specs.Times.{times}
use Rattle.semantics.specs.Windows.{call_value, numbered_after}
use Rattle.logical_plan.specs.Plan.{rows_of, shown_rows}
use Rattle.logical_plan.specs.WindowedPlan.{IsExtended, WindowedInOrder}

extended : (count : ℕ) (values : Row × ℕ → Row) → ((r : Row × ℕ) → length (values r) ≡ count) → (before rows : List Row)
    → AllZip (IsExtended count) rows (map (λ (r : Row × ℕ). r.0 ++ values r) (numbered_after before rows))
extended count values size before [] = tt
extended count values size before (row ∷ rows) =
    let r : Row × ℕ = (row, times row before) in
    let first : IsExtended count row (row ++ values r) = record { values = values r; size = size r; whole_is = refl } in
    (first, extended count values size (row ∷ before) rows)

pub windowed_in_order : WindowedInOrder
windowed_in_order w db below places calls =
    let rows = shown_rows places (rows_of w db below) in
    extended (length calls) (λ r. map (call_value (eval w) w rows r) calls) (λ r. length-map calls (call_value (eval w) w rows r)) [] rows
