-- The columns of a row that are shown.
use Rattle.std.proofs.Common.{◌≡◌, ◌∙◌, ◌+◌, ◌<◌, ℕ, List, [], ◌∷◌, ◌++◌, map, length, take, get_or, slice_get, Some, sym, ap}
use Rattle.std.proofs.lemmas.List.{map_push, take_more}
use Rattle.std.proofs.lemmas.Option.{get_or_from_slice_get}
use Rattle.values.specs.Datum.{null, datum_of_ref}
use Rattle.values.specs.declared.value.ValueRef.{ValueRef}
use Rattle.values.specs.Row.{Row}
use Rattle.semantics.specs.Sequence.{value_at}
use Rattle.semantics.specs.OneTable.{shown}

-- one column more
pub shown-more : (row : Row) (columns : List ℕ) (i : ℕ) (values : List ValueRef) (value : ValueRef) → i < length columns
    → slice_get row (get_or columns i 0) ≡ Some (datum_of_ref value)
    → map datum_of_ref values ≡ shown (take i columns) row
    → map datum_of_ref (values ++ value ∷ []) ≡ shown (take (i + 1) columns) row
shown-more row columns i values value within at before =
    map_push datum_of_ref values value
    ∙ (λ k. before k ++ sym (get_or_from_slice_get row (get_or columns i 0) (datum_of_ref value) null at) k ∷ [])
    ∙ sym (map_push (value_at row) (take i columns) (get_or columns i 0))
    ∙ sym (ap (map (value_at row)) (take_more columns i 0 within))
