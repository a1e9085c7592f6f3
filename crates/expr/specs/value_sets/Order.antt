-- The places of values, in the order of the values.
use Rattle.std.specs.Prelude.{ℕ, ◌<◌, Bool, Contains, List, length, slice_index_or}
use Rattle.std.specs.List.{list_any}
use Rattle.std.specs.List.Sorted.{IsSortedByKey}
use Rattle.std.specs.Ordering.{is_eq}
use Rattle.values.specs.Datum.{Datum, null}
use Rattle.values.specs.Order.{datum_cmp}

-- the value at a place; NULL past the end
abbrev pub value_at : List Datum → ℕ → Datum
value_at values at = slice_index_or values at null

-- one of the values is this one
abbrev pub is_among : Datum → List Datum → Bool
is_among x values = list_any (λ v. is_eq (datum_cmp x v)) values

-- each place of these values, in the order of the values
pub record IsOrderOf (values : List Datum) (order : List ℕ) : Type 0 where
  pub ascends : IsSortedByKey (value_at values) datum_cmp order
  pub all : (at : ℕ) → at < length values → Contains order at
